-- Whether the path is a directory is asked first.
use Rattle.std.proofs.Common.{rules}
use Rattle.directory.proofs.Rooms.{was_done, enough}
use Rattle.file_or_directory.proofs.Steps.{not_told, a_directory, no_directory}
use Rattle.file_or_directory.proofs.load_directory_or_file.Goals as goal

pub returns-in_err-is_directory-clause-done : goal.returns-in_err-is_directory-clause-done
returns-in_err-is_directory-clause-done c =
    rw c.from_residual.ensures (not_told _ _ (c.in_err-is_directory.ensures.done _))

pub returns-then-branch-clause-done : goal.returns-then-branch-clause-done
returns-then-branch-clause-done c =
    a_directory _ _ (c.in_ok-is_directory.ensures.done _) c.if-branch.true
    (rw c.bare-place.ensures at (was_done (enough _ (search rules)) c.load_as_directory.ensures.done))

pub returns-clause-done : goal.returns-clause-done
returns-clause-done c =
    no_directory _ _ (c.in_ok-is_directory.ensures.done _) c.if-branch.false
    (rw c.bare-place.ensures at c.load_as_file.ensures.done)
