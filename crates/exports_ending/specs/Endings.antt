-- What an exports field gives back, and what is refused at the end that it makes.
use Rattle.std.proofs.Math.Option.{Option}
use Rattle.std.specs.Prelude.{ℕ}
use Rattle.definition.specs.Text.{Text}
use Rattle.definition.specs.Exports.{Context}
use Rattle.definition.specs.Manifest.{Place}
use Rattle.refusal.specs.declared.Refusal.{Refusal}
use Rattle.refusal.specs.declared.Refusal.TheVariants.{PathTooLong}
use Rattle.consults.specs.Meaning.{place}
use Rattle.directory.specs.Refusals.{room_in, or_longer}

-- an exports field was resolved to a target
abbrev pub found_of : Context → Text → Unit {0} → Place
found_of c t u = place t c.query c.fragment

-- the work memory is too short, or else the path of the manifest has more than 2,048 bytes
abbrev pub room_naming : (work manifest : ℕ) → Option Refusal
room_naming w n = or_longer PathTooLong 2048 n (room_in w)
