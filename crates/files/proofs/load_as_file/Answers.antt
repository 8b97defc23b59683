-- The file itself, and then each extension: the loop goes on with those that are left, or the lookup has ended.
use Rattle.std.proofs.Common.{rules, ap, ◌∙◌}
use Rattle.definition.specs.Ask.{◌>>◌}
use Rattle.definition.specs.Settings.{settings_of}
use Rattle.definition.specs.Walk.{LOAD_AS_FILE}
use Rattle.settings.specs.Meaning.{texts_left}
use Rattle.consults.specs.Tape.{done_bind, done_stop}
use Rattle.consults.specs.Loop.{left_start, left_again, left_stop, left_end}
use Rattle.files.proofs.load_as_file.Goals as goal

pub returns-in_err-try_file-clause-done : goal.returns-in_err-try_file-clause-done
unfolding LOAD_AS_FILE ◌>>◌
returns-in_err-try_file-clause-done c = rw c.from_residual.ensures (done_stop _ (c.in_err-try_file.ensures.done _))

pub loop-ext-init : goal.loop-ext-init
unfolding settings_of
loop-ext-init c = (
  search rules,
  left_start _ _ _ _ _ (ap texts_left c.into_iter-ext-iterator.ensures.into_iter_gives ∙ c.texts-ext-items.ensures),
)

pub loop-ext-preserved : goal.loop-ext-preserved
loop-ext-preserved c = (
  search rules,
  left_again _ _ _ _ _ _ _ _ _ c.in-Some.ensures.steps c.loop-ext.invariant.1 (c.in_ok-try_extension.ensures.done _),
)

pub returns-in_err-try_extension-clause-done : goal.returns-in_err-try_extension-clause-done
unfolding LOAD_AS_FILE ◌>>◌
returns-in_err-try_extension-clause-done c =
    rw c.from_residual-in_err-try_extension.ensures (done_bind _ (c.in_ok-try_file.ensures.done _)
    (left_stop _ _ _ _ _ _ _ _ _ _ c.in-Some.ensures.steps c.loop-ext.invariant.1
    (c.in_err-try_extension.ensures.done _)))

pub returns-clause-done : goal.returns-clause-done
unfolding LOAD_AS_FILE ◌>>◌
returns-clause-done c =
    done_bind _ (c.in_ok-try_file.ensures.done _)
    (left_end _ _ _ _ _ _ c.in-None.ensures.steps.0 c.loop-ext.invariant.1)
