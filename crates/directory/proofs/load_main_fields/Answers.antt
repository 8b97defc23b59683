-- The main fields in turn, by the laws of a loop against `for_each`.
use Rattle.std.proofs.Common.{rules, ap, ◌∙◌}
use Rattle.settings.specs.Meaning.{texts_left}
use Rattle.consults.specs.Loop.{left_start, left_again, left_stop, left_end}
use Rattle.directory.proofs.load_main_fields.Goals as goal

pub loop-name-init : goal.loop-name-init
loop-name-init c = (
  search rules,
  left_start _ _ _ _ _ (ap texts_left c.into_iter-name-iterator.ensures.into_iter_gives ∙ c.texts-name-items.ensures),
)

pub loop-name-preserved : goal.loop-name-preserved
loop-name-preserved c = (
  search rules,
  left_again _ _ _ _ _ _ _ _ _ c.in-Some.ensures.steps c.loop-name.invariant.1 c.in_ok-load_main_field.ensures.done,
)

pub returns-in_err-load_main_field-clause-done : goal.returns-in_err-load_main_field-clause-done
returns-in_err-load_main_field-clause-done c =
    rw c.from_residual.ensures
    (left_stop _ _ _ _ _ _ _ _ _ _ c.in-Some.ensures.steps c.loop-name.invariant.1
    c.in_err-load_main_field.ensures.done)

pub returns-clause-done : goal.returns-clause-done
returns-clause-done c = left_end _ _ _ _ _ _ c.in-None.ensures.steps.0 c.loop-name.invariant.1
