-- A turn tries one extension: the loop goes on with those that are left, or the lookup has ended.
use Rattle.std.proofs.Common.{rules, ap, ◌∙◌}
use Rattle.definition.specs.Settings.{settings_of}
use Rattle.settings.specs.Meaning.{texts_left}
use Rattle.consults.specs.Loop.{left_start, left_again, left_stop, left_end}
use Rattle.files.specs.Meaning.{load_main_file}
use Rattle.files.proofs.load_main_file.Goals as goal

pub loop-ext-init : goal.loop-ext-init
unfolding settings_of
loop-ext-init c = (
  search rules,
  left_start _ _ _ _ _ (ap texts_left c.into_iter-ext-iterator.ensures.into_iter_gives ∙ c.texts-ext-items.ensures),
)

pub loop-ext-preserved : goal.loop-ext-preserved
loop-ext-preserved c = (
  search rules,
  left_again _ _ _ _ _ _ _ _ _ c.in-Some.ensures.steps c.loop-ext.invariant.1 (c.in_ok-try_index.ensures.done _),
)

pub returns-in_err-try_index-clause-done : goal.returns-in_err-try_index-clause-done
unfolding load_main_file
returns-in_err-try_index-clause-done c =
    rw c.from_residual.ensures
    (left_stop _ _ _ _ _ _ _ _ _ _ c.in-Some.ensures.steps c.loop-ext.invariant.1 (c.in_err-try_index.ensures.done _))

pub returns-clause-done : goal.returns-clause-done
unfolding load_main_file
returns-clause-done c = left_end _ _ _ _ _ _ c.in-None.ensures.steps.0 c.loop-ext.invariant.1
