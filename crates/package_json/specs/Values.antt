-- What stands at a place of a manifest, by what it means: JSON.parse's value, in which an object has each name once.
use Rattle.std.specs.Prelude.{◌≡◌, ℕ}
use Rattle.std.proofs.Math.Option.{Option, none, some}
use Rattle.definition.specs.Text.{Text}
use Rattle.definition.specs.Json.{Json, settled}
use Rattle.laws.specs.JsonAtLaws as at

-- the text here means j; d more brackets may be open in it
pub record Stands (d : ℕ) (s : Text) (j : Json) : Type 0 where
  pub written : Json
  pub there : at.Stands d s written
  pub means : settled written ≡ j

-- a member's value was looked for
pub data Finds (d : ℕ) : Option Json → Option Text → Type 0 where
  finds : {s : Text} {j : Json} → Stands d s j → Finds d (some j) (some s)
  finds_none : Finds d none none
