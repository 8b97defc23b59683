use mathlib.Core.Path.{◌≡◌}
use Prim.Native.Nat.{◌-◌, ◌+◌, ◌≤◌}
use lib.ListN.{length, drop}
use Rattle.definition.specs.Text.{overwrite}
use Rattle.text.proofs.copy_at.Given as goal

-- what is still to be written, written over what stands there, is the whole
abbrev pub invariant-loop-i : goal.invariant-loop-i
invariant-loop-i l = (l.i ≤ l.n) × (length l.dst ≡ length l.initial.dst) × (overwrite (l.at + l.i) (drop l.i l.src) l.dst ≡ overwrite l.at l.src l.initial.dst)

abbrev pub decreases-loop-i : goal.decreases-loop-i
decreases-loop-i l = l.n - l.i
