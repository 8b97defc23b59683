-- A file, a directory, or nothing.
use Rattle.std.proofs.Common.{rules}
use Rattle.directory.proofs.Rooms.{was_done, enough}
use Rattle.esm_match.proofs.Matches.{match_file, match_directory, match_none}
use Rattle.esm_match.proofs.resolve_esm_match.Goals as goal

pub returns-in_err-load_as_file-clause-done : goal.returns-in_err-load_as_file-clause-done
returns-in_err-load_as_file-clause-done c =
    rw c.from_residual.ensures (match_file _ _ _ c.in_err-load_as_file.ensures.done)

pub returns-in_err-load_if_directory-clause-done : goal.returns-in_err-load_if_directory-clause-done
returns-in_err-load_if_directory-clause-done c =
    rw c.from_residual-in_err-load_if_directory.ensures
    (match_directory _ _ _ c.in_ok-load_as_file.ensures.done
    (was_done (enough _ (search rules)) c.in_err-load_if_directory.ensures.done))

pub returns-clause-done : goal.returns-clause-done
returns-clause-done c =
    match_none _ _ _ c.in_ok-load_as_file.ensures.done
    (was_done (enough _ (search rules)) c.in_ok-load_if_directory.ensures.done) (c.not_found.ensures.done _)
