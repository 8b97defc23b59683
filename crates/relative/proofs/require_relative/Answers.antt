-- The path is built, then 3.a, 3.b and c come in turn.
use Rattle.refusal.specs.declared.Refusal.TheVariants.{PathTooLong}
use Rattle.consults.proofs.Ways.{wanted, had}
use Rattle.directory.proofs.Rooms.{is_done, is_lent, not_lent}
use Rattle.relative.proofs.Steps.{relative_long, relative_file, relative_directory}
use Rattle.relative.proofs.require_relative.Goals as goal

pub returns-in_err-work-clause-done : goal.returns-in_err-work-clause-done
returns-in_err-work-clause-done c =
    rw c.from_residual.ensures (not_lent _ _ _ c.first_chunk_mut.ensures.cases c.or_refuse.ensures c.in_err-work.was)

pub returns-in_err-path-clause-done : goal.returns-in_err-path-clause-done
returns-in_err-path-clause-done c =
    let enough = is_lent _ _ _ c.first_chunk_mut.ensures.cases c.or_refuse.ensures c.in_ok-work.was in
    let (long, is) = wanted _ _ PathTooLong _ c.as_slice.ensures c.or_refuse-2.ensures c.in_err-path.was in
    rw (c.from_residual-in_err-path.ensures, is)
    (is_done _ enough (relative_long _ _ _ c.normalize_with-built.ensures long))

pub returns-in_err-load_unless_folder-clause-done : goal.returns-in_err-load_unless_folder-clause-done
returns-in_err-load_unless_folder-clause-done c =
    let enough = is_lent _ _ _ c.first_chunk_mut.ensures.cases c.or_refuse.ensures c.in_ok-work.was in
    let path = had _ _ PathTooLong _ c.as_slice.ensures c.or_refuse-2.ensures c.in_ok-path.was in
    rw c.from_residual-in_err-load_unless_folder.ensures
    (is_done _ enough (relative_file _ _ _ c.normalize_with-built.ensures path
    c.in_err-load_unless_folder.ensures.done))

pub returns-clause-done : goal.returns-clause-done
returns-clause-done c =
    let enough = is_lent _ _ _ c.first_chunk_mut.ensures.cases c.or_refuse.ensures c.in_ok-work.was in
    let path = had _ _ PathTooLong _ c.as_slice.ensures c.or_refuse-2.ensures c.in_ok-path.was in
    is_done _ enough
    (relative_directory _ _ _ c.normalize_with-built.ensures path c.in_ok-load_unless_folder.ensures.done
    c.load_directory_or_none.ensures.done)
