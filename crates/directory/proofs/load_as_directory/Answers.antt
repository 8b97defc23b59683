-- Without work memory a refusal; then by the directory's own manifest, if it has one.
use Rattle.directory.proofs.Manifests.{directory_ended, directory_bare, directory_manifest}
use Rattle.consults.specs.Meaning.{settings_in}
use Rattle.directory.proofs.Rooms.{is_done, is_lent, not_lent}
use Rattle.directory.proofs.load_as_directory.Goals as goal

pub returns-in_err-work-clause-done : goal.returns-in_err-work-clause-done
returns-in_err-work-clause-done c =
    rw c.from_residual.ensures (not_lent _ _ _ c.first_chunk_mut.ensures.cases c.or_refuse.ensures c.in_err-work.was)

pub returns-in_err-package-clause-done : goal.returns-in_err-package-clause-done
returns-in_err-package-clause-done c =
    rw c.from_residual-in_err-package.ensures
    (is_done _ (is_lent _ _ _ c.first_chunk_mut.ensures.cases c.or_refuse.ensures c.in_ok-work.was)
    (directory_ended _ _ (c.in_err-package.ensures.done (settings_in c.args.job))))

pub returns-in_default-clause-done : goal.returns-in_default-clause-done
returns-in_default-clause-done c =
    is_done _ (is_lent _ _ _ c.first_chunk_mut.ensures.cases c.or_refuse.ensures c.in_ok-work.was)
    (directory_bare _ _ (rw c.in_default.is at (c.in_ok-package.ensures.done (settings_in c.args.job)))
    c.load_index.ensures.done)

pub returns-clause-done : goal.returns-clause-done
returns-clause-done c =
    is_done _ (is_lent _ _ _ c.first_chunk_mut.ensures.cases c.or_refuse.ensures c.in_ok-work.was)
    (directory_manifest _ _ _ (rw c.in-Some.is at (c.in_ok-package.ensures.done (settings_in c.args.job)))
    c.load_by_manifest.ensures.done)
