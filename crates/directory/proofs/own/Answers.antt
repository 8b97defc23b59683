-- The nearest manifest is kept where it is in the directory itself.
use mathlib.Core.Path.{sym, ◌∙◌}
use Rattle.laws.specs.TextLaws.{equal_true}
use Rattle.directory.proofs.Manifests.{own_stop, own_nowhere, own_here, own_above}
use Rattle.directory.proofs.own.Goals as goal

pub returns-in_err-package-clause-done : goal.returns-in_err-package-clause-done
returns-in_err-package-clause-done c G = rw c.from_residual.ensures (own_stop G _ (c.in_err-package.ensures.done G))

pub returns-in_default-clause-done : goal.returns-in_default-clause-done
returns-in_default-clause-done c G = own_nowhere G _ (rw c.in_default.is at (c.in_ok-package.ensures.done G))

pub returns-then-not-equal-clause-done : goal.returns-then-not-equal-clause-done
returns-then-not-equal-clause-done c G =
    own_above G _ _ (rw c.in-Some.is at (c.in_ok-package.ensures.done G)) (sym c.equal.ensures ∙ c.if-not-equal.true)

pub returns-clause-done : goal.returns-clause-done
returns-clause-done c G =
    own_here G _ _ (rw c.in-Some.is at (c.in_ok-package.ensures.done G)) (sym c.equal.ensures ∙ c.if-not-equal.false)

pub returns-clause-here : goal.returns-clause-here
returns-clause-here c = equal_true _ _ (sym c.equal.ensures ∙ c.if-not-equal.false)
