-- DIR/NAME is asked for, its exports are loaded, and then b. and c. come.
use Rattle.std.proofs.Common.{rules}
use Rattle.definition.specs.Walk.{when}
use Rattle.consults.specs.Tape.{done_ret, done_bind, done_stop}
use Rattle.directory.proofs.Rooms.{was_done, enough}
use Rattle.modules.specs.Routines.{in_package}
use Rattle.modules.proofs.in_package.Goals as goal

pub returns-in_err-is_dir-clause-done : goal.returns-in_err-is_dir-clause-done
unfolding in_package
returns-in_err-is_dir-clause-done c = rw c.from_residual.ensures (done_stop _ (c.in_err-is_dir.ensures.done _))

pub returns-in_err-go_on-clause-done : goal.returns-in_err-go_on-clause-done
unfolding in_package
returns-in_err-go_on-clause-done c =
    rw c.from_residual-in_err-go_on.ensures
    (done_bind _ (c.in_ok-is_dir.ensures.done _) (done_stop _ c.in_err-go_on.ensures.done))

pub returns-then-not-branch-clause-done : goal.returns-then-not-branch-clause-done
unfolding in_package when
returns-then-not-branch-clause-done c =
    done_bind _ (c.in_ok-is_dir.ensures.done _)
    (done_bind _ c.in_ok-go_on.ensures.done (rw c.if-not-branch.true done_ret))

pub returns-clause-done : goal.returns-clause-done
unfolding in_package when
returns-clause-done c =
    done_bind _ (c.in_ok-is_dir.ensures.done _)
    (done_bind _ c.in_ok-go_on.ensures.done
    (rw c.if-not-branch.false (was_done (enough _ (search rules)) c.load_as_file_or_directory.ensures.done)))
