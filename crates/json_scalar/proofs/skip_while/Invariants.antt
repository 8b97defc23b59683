-- The bytes that were passed pass the test.
use Rattle.std.proofs.Common.{◌≡◌, ℕ, drop}
use mathlib.Core.Bool.{Bool}
use Rattle.definition.specs.Text.{skip_while}
use Rattle.json_scalar.proofs.skip_while.Given as goal

abbrev pub invariant-loop-i : goal.invariant-loop-i
invariant-loop-i g l =
    (p : ℕ → Bool) → ((b : ℕ) (r : Bool) → g.F.Fn.post l.test (b, tt) r → r ≡ p b)
    → skip_while p (drop l.at l.m) ≡ skip_while p (drop l.i l.m)
