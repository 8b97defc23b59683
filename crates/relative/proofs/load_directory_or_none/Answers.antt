-- LOAD_AS_DIRECTORY ends the lookup, or "not found" does.
use Rattle.directory.proofs.Rooms.{was_done, enough}
use Rattle.relative.proofs.Steps.{directory_found, none_found}
use Rattle.std.proofs.Common.{rules}
use Rattle.relative.proofs.load_directory_or_none.Goals as goal

pub returns-in_err-load_if_directory-clause-done : goal.returns-in_err-load_if_directory-clause-done
returns-in_err-load_if_directory-clause-done c =
    rw c.from_residual.ensures (directory_found _ _ _
    (rw c.bare.ensures at (was_done (enough _ (search rules)) c.in_err-load_if_directory.ensures.done)))

pub returns-clause-done : goal.returns-clause-done
returns-clause-done c =
    none_found _ _ _ (rw c.bare.ensures at (was_done (enough _ (search rules)) c.in_ok-load_if_directory.ensures.done))
    (c.not_found.ensures.done _)
