-- What the answers of the public functions mean in terms of the definition.
use Rattle.std.specs.Prelude.{ℕ, Option as Answer, Some, None, Result, Ok, Err, drop}
use Rattle.std.proofs.Math.Option.{Option, none, some}
use Rattle.definition.specs.Text.{Text}
use Rattle.definition.specs.Json.{fault_number}
use Rattle.definition.specs.JsonAt as json
use Rattle.definition.specs.JsonAt.{rooted, faulty, a_scalar, a_string, an_array, an_object}
use Rattle.json_text.specs.Scanned.{fault_of}
use Rattle.json_text.specs.declared.Fault.{Fault}
use Rattle.package_json.specs.declared.Kind.{Kind}
use Rattle.package_json.specs.declared.Kind.TheVariants.{Scalar, String, Array, Object}

abbrev pub checked_of : Text → Result ℕ Fault → json.Checked
checked_of m (Ok i) = rooted (drop i m)
checked_of m (Err f) = faulty (fault_of f)

abbrev pub number_of : json.Checked → ℕ
number_of (rooted s) = 0
number_of (faulty f) = fault_number f

abbrev pub kind_of : Answer Kind → Option json.Kind
kind_of (Some Scalar) = some a_scalar
kind_of (Some String) = some a_string
kind_of (Some Array) = some an_array
kind_of (Some Object) = some an_object
kind_of None = none

-- a place of the manifest m stands for the bytes from there on
abbrev pub placed : Text → Answer ℕ → Option Text
placed m (Some i) = some (drop i m)
placed m None = none
