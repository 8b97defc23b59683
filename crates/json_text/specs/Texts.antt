-- The text of a string: a part of the manifest or of the work buffer.
use Rattle.std.specs.Prelude.{Bool, false, [], ◌∷◌, Option as Answer, Some, None, drop, take, eqb}
use Rattle.std.proofs.Math.Option.{Option, none, some}
use Rattle.definition.specs.Text.{Text}
use Rattle.definition.specs.JsonAt.{Told}
use Rattle.json_text.specs.declared.TextAt.{TextAt}
use Rattle.json_text.specs.declared.TextAt.TheVariants.{Manifest, Work}

abbrev pub starts_quote : Text → Bool
starts_quote [] = false
starts_quote (b ∷ s) = eqb b 34

-- the text that an answer of the string reader names, and the definition's record of it
abbrev pub text_of : Text → Text → Answer TextAt → Option Text
text_of m w (Some (Manifest i n)) = some (take n (drop i m))
text_of m w (Some (Work n)) = some (take n w)
text_of m w None = none

abbrev pub told : Text → Text → Answer TextAt → Told
told m w r = record { text = text_of m w r; work = w }

abbrev pub or_empty : Option Text → Text
or_empty none = []
or_empty (some t) = t
