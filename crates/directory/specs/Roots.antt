-- The value of a manifest and where it begins, which a package holds by its type; and a text that may be missing.
use Rattle.std.specs.Prelude.{List, ℕ, Some, None}
use Rattle.std.specs.Prelude as std
use Rattle.std.specs.Borrow.{Bor}
use Rattle.std.proofs.Math.Option.{Option, none, some}
use Rattle.definition.specs.Text.{Text}
use Rattle.definition.specs.Json.{Json, scalar, Read, got, fault, parse, settled}
use Rattle.definition.specs.JsonAt.{Checked, rooted, faulty, check, Told, text_at}

-- the value of a manifest
abbrev pub value_of : Read Json → Json
value_of (got j r) = settled j
value_of (fault f) = scalar

abbrev pub json_of : Text → Json
json_of m = value_of (parse m)

-- a manifest without fault from its root value on
abbrev pub from_root : Checked → std.Option Text
from_root (rooted s) = Some s
from_root (faulty f) = None

abbrev pub root_in : Text → std.Option Text
root_in m = from_root (check m)

-- a text that may be missing
abbrev pub text_in : std.Option (Bor (List ℕ)) → Option Text
text_in None = none
text_in (Some b) = some b.now

-- the text of a member, if there is one: `text_at` there
abbrev pub told_in : Option Text → (work : Text) → Told
told_in none w = record { text = none; work = w }
told_in (some s) w = text_at s w
