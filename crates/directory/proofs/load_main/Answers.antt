-- The path is built, and tried as a file and as a directory's index.
use mathlib.Core.Path.{◌∙◌}
use Rattle.refusal.specs.declared.Refusal.TheVariants.{PathTooLong}
use Rattle.consults.specs.Tape.{done_bind, done_stop}
use Rattle.consults.proofs.Ways.{wanted, had}
use Rattle.directory.proofs.Manifests.{main_below, main_long, main_fits}
use Rattle.directory.proofs.load_main.Goals as goal

pub returns-in_err-path-clause-done : goal.returns-in_err-path-clause-done
returns-in_err-path-clause-done c =
    let (long, is) = wanted _ _ PathTooLong _ c.as_slice.ensures c.or_refuse.ensures c.in_err-path.was in
    rw (c.from_residual.ensures, is) (main_long _ _ _ (c.normalize_below-built.ensures ∙ main_below _ _) long)

pub returns-in_err-load_as_file-clause-done : goal.returns-in_err-load_as_file-clause-done
returns-in_err-load_as_file-clause-done c =
    let path = had _ _ PathTooLong _ c.as_slice.ensures c.or_refuse.ensures c.in_ok-path.was in
    rw c.from_residual-in_err-load_as_file.ensures
    (main_fits _ _ _ (c.normalize_below-built.ensures ∙ main_below _ _) path
    (done_stop _ (rw c.at-below.ensures at c.in_err-load_as_file.ensures.done)))

pub returns-clause-done : goal.returns-clause-done
returns-clause-done c =
    let path = had _ _ PathTooLong _ c.as_slice.ensures c.or_refuse.ensures c.in_ok-path.was in
    main_fits _ _ _ (c.normalize_below-built.ensures ∙ main_below _ _) path
    (done_bind _ (rw c.at-below.ensures at c.in_ok-load_as_file.ensures.done)
    (rw c.at-below.ensures at c.load_index.ensures.done))
