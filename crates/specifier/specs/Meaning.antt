-- What the answers of the functions mean.
use Rattle.std.specs.Prelude.{◌≡◌, ℕ, ◌+◌, min, length, drop, Result, Ok, Err}
use mathlib.Core.List.{List, flat_map}
use Rattle.definition.specs.Text.{hash, before, utf8}
use Rattle.definition.specs.Path.{Built, limited}
use Rattle.definition.specs.Specifier.{Specifier, parsed, empty_specifier, unescape}
use Rattle.specifier.specs.declared.Path.{Path}
use Rattle.specifier.specs.declared.Path.TheVariants.{Plain, Escaped}
use Rattle.specifier.specs.declared.Specifier.{Specifier as Answer}
use Rattle.specifier.specs.declared.SpecifierError.{SpecifierError}
use Rattle.specifier.specs.declared.SpecifierError.TheVariants.{Empty}

-- the place of the first "#" behind the first byte, or the end
abbrev pub IsFirstHash : List ℕ → ℕ → Type 0
IsFirstHash s i = i ≡ min (1 + length (before hash (drop 1 s))) (length s)

-- a parsed specifier with its path under the limit on paths, or the error that the path is empty
pub data Parts : Type 0 where
  parts : (path : Built) (query fragment : List ℕ) → Parts
  no_path : Parts

abbrev pub parts_of : Specifier → Parts
parts_of (parsed p q f) = parts (limited p) q f
parts_of empty_specifier = no_path

-- a path as it stands in the specifier
abbrev pub written : Path → List ℕ
written (Plain s) = s.now
written (Escaped s) = s.now

-- its text: where something is escaped, each byte is a character
abbrev pub path_text : Path → List ℕ
path_text (Plain s) = s.now
path_text (Escaped s) = flat_map utf8 (unescape s.now)

unfoldable pub meant : Result Answer SpecifierError → Parts
meant (Ok r) = parts (limited (path_text r.path)) r.query.now r.fragment.now
meant (Err Empty) = no_path
