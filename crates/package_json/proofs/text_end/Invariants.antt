-- What is passed by is no quote that closes the string.
use Rattle.std.proofs.Common.{◌≡◌, ◌-◌, ◌≤◌, false, length, drop}
use Rattle.definition.specs.JsonAt.{text_end}
use Rattle.package_json.proofs.text_end.Given as goal

abbrev pub invariant-loop-b : goal.invariant-loop-b
invariant-loop-b l = (l.at ≤ l.i) × (text_end false (drop l.at l.m) ≡ text_end false (drop l.i l.m))

abbrev pub decreases-loop-b : goal.decreases-loop-b
decreases-loop-b l = length l.m - l.i
