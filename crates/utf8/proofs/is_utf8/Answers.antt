-- A step of the state is a step of the definition.
use Rattle.std.proofs.Common.{refl, sym, ◌∙◌}
use Rattle.std.proofs.Math.ListN.{drop_of_length-le}
use Rattle.definition.specs.Text.{is_utf8}
use Rattle.laws.specs.TextSteps.{utf8_ascii, utf8_step, utf8_end, utf8_bad}
use Rattle.utf8.proofs.is_utf8.Goals as goal

pub returns-then-is_ascii : goal.returns-then-is_ascii
returns-then-is_ascii c = sym (utf8_ascii _ (λ k h. c.if-is_ascii.ensures.cases k))

pub loop-b-init : goal.loop-b-init
unfolding is_utf8
loop-b-init c = refl

pub returns-in_default : goal.returns-in_default
returns-in_default c = sym (utf8_step _ _ _ _ _ c.loop-b-test.true c.in_default.ensures refl ∙ utf8_bad _) ∙ c.loop-b.invariant

pub returns : goal.returns
returns c = sym (utf8_end _ _ _) ∙ rw (drop_of_length-le _ c.loop-b-test.false) at c.loop-b.invariant
