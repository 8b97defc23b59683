-- The values so far are those of the members that have come (`Gathering`).
use Rattle.std.proofs.Common.{ℕ, suc, length}
use Rattle.definition.specs.Json.{Members, obj}
use Rattle.settings.specs.Meaning.{texts_left}
use Rattle.package_target.specs.Places.{Written}
use Rattle.package_target.specs.Conditions.{places}
use Rattle.package_target.proofs.Gathering.{Gathering}
use Rattle.package_target.proofs.ConditionList.put_last_values.Given as goal

abbrev pub invariant-loop-member : goal.invariant-loop-member
invariant-loop-member l =
    (d : ℕ) (ms : Members) → Written l.m (suc d) l.at (obj ms)
    → Gathering l.m d (texts_left l.self.texts) (places (length l.m) l.initial.values)
    (places (length l.m) l.values) l.member-iterator ms
