-- A turn tries one main file: the loop goes on with those that are left, or the lookup has ended.
use Rattle.std.proofs.Common.{rules, ap, ◌∙◌}
use Rattle.definition.specs.Settings.{settings_of}
use Rattle.definition.specs.Walk.{LOAD_INDEX}
use Rattle.settings.specs.Meaning.{texts_left}
use Rattle.consults.specs.Loop.{left_start, left_again, left_stop, left_end}
use Rattle.files.specs.Meaning.{load_main_file}
use Rattle.files.proofs.load_index.Goals as goal

pub loop-file-init : goal.loop-file-init
unfolding settings_of
loop-file-init c = (
  search rules,
  left_start _ _ _ _ _ (ap texts_left c.into_iter-file-iterator.ensures.into_iter_gives ∙ c.texts-file-items.ensures),
)

pub loop-file-preserved : goal.loop-file-preserved
loop-file-preserved c = (
  search rules,
  left_again _ _ _ _ _ _ _ _ _ c.in-Some.ensures.steps c.loop-file.invariant.1 c.in_ok-load_main_file.ensures.done,
)

pub returns-in_err-load_main_file-clause-done : goal.returns-in_err-load_main_file-clause-done
unfolding LOAD_INDEX load_main_file
returns-in_err-load_main_file-clause-done c =
    rw c.from_residual.ensures
    (left_stop _ _ _ _ _ _ _ _ _ _ c.in-Some.ensures.steps c.loop-file.invariant.1 c.in_err-load_main_file.ensures.done)

pub returns-clause-done : goal.returns-clause-done
unfolding LOAD_INDEX load_main_file
returns-clause-done c = left_end _ _ _ _ _ _ c.in-None.ensures.steps.0 c.loop-file.invariant.1
