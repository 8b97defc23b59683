-- Whether the path is a directory is asked first.
use Rattle.std.proofs.Common.{rules}
use Rattle.definition.specs.Walk.{when}
use Rattle.consults.specs.Tape.{done_ret, done_bind, done_stop}
use Rattle.directory.specs.Routines.{if_directory}
use Rattle.directory.proofs.Rooms.{was_done, is_done, is_lent, not_lent, enough}
use Rattle.directory.proofs.load_if_directory.Goals as goal

pub returns-in_err-work-clause-done : goal.returns-in_err-work-clause-done
returns-in_err-work-clause-done c =
    rw c.from_residual.ensures (not_lent _ _ _ c.first_chunk_mut.ensures.cases c.or_refuse.ensures c.in_err-work.was)

pub returns-in_err-is_directory-clause-done : goal.returns-in_err-is_directory-clause-done
unfolding if_directory
returns-in_err-is_directory-clause-done c =
    rw c.from_residual-in_err-is_directory.ensures
    (is_done _ (is_lent _ _ _ c.first_chunk_mut.ensures.cases c.or_refuse.ensures c.in_ok-work.was)
    (done_stop _ (c.in_err-is_directory.ensures.done _)))

pub returns-then-branch-clause-done : goal.returns-then-branch-clause-done
unfolding if_directory when
returns-then-branch-clause-done c =
    is_done _ (is_lent _ _ _ c.first_chunk_mut.ensures.cases c.or_refuse.ensures c.in_ok-work.was)
    (done_bind _ (c.in_ok-is_directory.ensures.done _)
    (rw c.if-branch.true (was_done (enough _ (search rules)) c.load_as_directory.ensures.done)))

pub returns-clause-done : goal.returns-clause-done
unfolding if_directory when
returns-clause-done c =
    is_done _ (is_lent _ _ _ c.first_chunk_mut.ensures.cases c.or_refuse.ensures c.in_ok-work.was)
    (done_bind _ (c.in_ok-is_directory.ensures.done _) (rw c.if-branch.false done_ret))
