-- The package's path is built.
use Rattle.definition.specs.Walk.{under, in_modules}
use Rattle.refusal.specs.declared.Refusal.TheVariants.{PathTooLong}
use Rattle.consults.proofs.Ways.{wanted, had, made_long, made_fits}
use Rattle.modules.specs.Routines.{in_package}
use Rattle.modules.proofs.in_modules.Goals as goal

pub returns-in_err-dir-clause-done : goal.returns-in_err-dir-clause-done
unfolding in_modules under
returns-in_err-dir-clause-done c =
    let (long, is) = wanted _ _ PathTooLong _ c.as_slice.ensures c.or_refuse.ensures c.in_err-dir.was in
    rw (c.from_residual.ensures, is) (made_long _ (rw c.normalize_with-built.ensures at long))

pub returns-clause-done : goal.returns-clause-done
unfolding in_modules in_package under
returns-clause-done c =
    let dir = had _ _ PathTooLong _ c.as_slice.ensures c.or_refuse.ensures c.in_ok-dir.was in
    made_fits _ (rw c.normalize_with-built.ensures at dir) c.in_package.ensures.done
