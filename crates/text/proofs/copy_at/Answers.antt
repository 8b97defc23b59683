use mathlib.Core.Path.{refl, sym, ◌∙◌}
use native.Mathlib.Omega.{arith}
use native.Mathlib.Nat.{add-zero}
use lib.ListN.{length-set}
use borrow.Author.Rules.{rules}
use Rattle.laws.specs.TextSteps.{overwrite_step, overwrite_end}
use Rattle.text.proofs.copy_at.Goals as goal

pub loop-i-init : goal.loop-i-init
loop-i-init c = (search rules, refl, rw add-zero)

pub loop-i-preserved : goal.loop-i-preserved
loop-i-preserved c = (omega arith, simp length-set c.loop-i.invariant.1, sym (overwrite_step _ _ _ _ 0 (omega arith) (omega arith)) ∙ c.loop-i.invariant.2)

pub shape_of-dst : goal.shape_of-dst
shape_of-dst c = c.loop-i.invariant.1

pub returns : goal.returns
returns c = sym (overwrite_end _ _ _ _ (omega arith)) ∙ c.loop-i.invariant.2
