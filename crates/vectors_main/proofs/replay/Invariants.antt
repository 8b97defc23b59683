-- At most every case so far differs, so the count of those that differ has room for one more.
use Rattle.std.proofs.Common.{◌≤◌}
use Rattle.vectors_main.proofs.replay.Given as goal

abbrev pub invariant-loop-n : goal.invariant-loop-n
invariant-loop-n g l = l.differ ≤ l.n-counter
