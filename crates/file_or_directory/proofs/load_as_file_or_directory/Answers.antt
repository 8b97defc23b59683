-- The path is built; then a file at once, or a directory or a file.
use Rattle.refusal.specs.declared.Refusal.TheVariants.{PathTooLong}
use Rattle.consults.proofs.Ways.{wanted, had}
use Rattle.directory.proofs.Rooms.{is_done, is_lent, not_lent}
use Rattle.file_or_directory.proofs.Steps.{both_long, file_found, then_directory}
use Rattle.file_or_directory.proofs.load_as_file_or_directory.Goals as goal

pub returns-in_err-work-clause-done : goal.returns-in_err-work-clause-done
returns-in_err-work-clause-done c =
    rw c.from_residual.ensures (not_lent _ _ _ c.first_chunk_mut.ensures.cases c.or_refuse.ensures c.in_err-work.was)

pub returns-in_err-path-clause-done : goal.returns-in_err-path-clause-done
returns-in_err-path-clause-done c =
    let enough = is_lent _ _ _ c.first_chunk_mut.ensures.cases c.or_refuse.ensures c.in_ok-work.was in
    let (long, is) = wanted _ _ PathTooLong _ c.as_slice.ensures c.or_refuse-2.ensures c.in_err-path.was in
    rw (c.from_residual-in_err-path.ensures, is)
    (is_done _ enough (both_long _ _ _ _ c.normalize_with-built.ensures long))

pub returns-in_err-load_file_first-clause-done : goal.returns-in_err-load_file_first-clause-done
returns-in_err-load_file_first-clause-done c =
    let enough = is_lent _ _ _ c.first_chunk_mut.ensures.cases c.or_refuse.ensures c.in_ok-work.was in
    let path = had _ _ PathTooLong _ c.as_slice.ensures c.or_refuse-2.ensures c.in_ok-path.was in
    rw c.from_residual-in_err-load_file_first.ensures
    (is_done _ enough (file_found _ _ _ _ c.normalize_with-built.ensures path c.in_err-load_file_first.ensures.done))

pub returns-clause-done : goal.returns-clause-done
returns-clause-done c =
    let enough = is_lent _ _ _ c.first_chunk_mut.ensures.cases c.or_refuse.ensures c.in_ok-work.was in
    let path = had _ _ PathTooLong _ c.as_slice.ensures c.or_refuse-2.ensures c.in_ok-path.was in
    is_done _ enough
    (then_directory _ _ _ _ c.normalize_with-built.ensures path c.in_ok-load_file_first.ensures.done
    c.load_directory_or_file.ensures.done)
