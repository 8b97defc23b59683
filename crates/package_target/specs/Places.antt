-- What stands at a place of a manifest m.
use Rattle.std.specs.Prelude.{◌≡◌, ℕ, List, drop}
use Rattle.definition.specs.Json.{Json, scalar, str, arr, obj, settled}
use Rattle.laws.specs.JsonAtLaws as at
use Rattle.package_json.specs.declared.Kind.{Kind}
use Rattle.package_json.specs.declared.Kind.TheVariants.{Scalar, String, Array, Object}

-- a value as it is written
pub record Written (m : List ℕ) (d i : ℕ) (j : Json) : Type 0 where
  pub here : at.Stands d (drop i m) j

-- the value that a text means: in each object a name once
pub record Stands (m : List ℕ) (d i : ℕ) (j : Json) : Type 0 where
  pub written : Json
  pub there : Written m d i written
  pub means : settled written ≡ j

abbrev pub kind_of : Json → Kind
kind_of scalar = Scalar
kind_of (str s) = String
kind_of (arr js) = Array
kind_of (obj ms) = Object
