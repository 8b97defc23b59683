-- So many brackets are open, and each of them has taken a byte.
use Rattle.std.proofs.Common.{◌≡◌, ◌-◌, ◌≤◌, length, drop}
use Rattle.definition.specs.JsonAt.{outside, bracket_end}
use Rattle.package_json.proofs.bracket_end.Given as goal

abbrev pub invariant-loop-b : goal.invariant-loop-b
invariant-loop-b l =
    (l.open ≤ l.i) × (bracket_end outside 0 (drop l.at l.m) ≡ bracket_end outside l.open (drop l.i l.m))

abbrev pub decreases-loop-b : goal.decreases-loop-b
decreases-loop-b l = length l.m - l.i
