-- After i turns the first i numbers have been spread.
use mathlib.Core.Path.{◌≡◌}
use Prim.Native.Nat.{◌≤◌}
use lib.ListN.{length}
use Rattle.output.proofs.Spreading.{spread_to}
use Rattle.output.proofs.spread.Given as goal

abbrev pub invariant-loop-i : goal.invariant-loop-i
invariant-loop-i l =
    (l.i ≤ l.count) × (length l.nums ≡ length l.initial.nums)
    × (l.nums ≡ spread_to l.i l.count l.initial.nums)
