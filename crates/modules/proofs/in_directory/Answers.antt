-- The directory is asked for, and then the folder of packages in it.
use Rattle.definition.specs.Walk.{when, under, in_directory}
use Rattle.refusal.specs.declared.Refusal.TheVariants.{PathTooLong}
use Rattle.consults.specs.Tape.{done_ret, done_bind, done_stop}
use Rattle.consults.proofs.Ways.{wanted, had, made_long, made_fits}
use Rattle.modules.proofs.in_directory.Goals as goal

pub returns-in_err-is_directory-clause-done : goal.returns-in_err-is_directory-clause-done
unfolding in_directory
returns-in_err-is_directory-clause-done c =
    rw c.from_residual.ensures (done_stop _ (c.in_err-is_directory.ensures.done _))

pub returns-then-not-branch-clause-done : goal.returns-then-not-branch-clause-done
unfolding in_directory when
returns-then-not-branch-clause-done c =
    done_bind _ (c.in_ok-is_directory.ensures.done _) (rw c.if-not-branch.true done_ret)

pub returns-in_err-modules-clause-done : goal.returns-in_err-modules-clause-done
unfolding in_directory when under
returns-in_err-modules-clause-done c =
    let (long, is) = wanted _ _ PathTooLong _ c.as_slice.ensures c.or_refuse.ensures c.in_err-modules.was in
    rw (c.from_residual-in_err-modules.ensures, is)
    (done_bind _ (c.in_ok-is_directory.ensures.done _)
    (rw c.if-not-branch.false (made_long _ (rw (c.normalize_with-built.ensures, c.requires) at long))))

pub returns-in_err-is_directory-2-clause-done : goal.returns-in_err-is_directory-2-clause-done
unfolding in_directory when under
returns-in_err-is_directory-2-clause-done c =
    let modules = had _ _ PathTooLong _ c.as_slice.ensures c.or_refuse.ensures c.in_ok-modules.was in
    rw c.from_residual-in_err-is_directory-2.ensures
    (done_bind _ (c.in_ok-is_directory.ensures.done _)
    (rw c.if-not-branch.false (made_fits _ (rw (c.normalize_with-built.ensures, c.requires) at modules)
    (done_stop _ (c.in_err-is_directory-2.ensures.done _)))))

pub returns-then-not-branch-2-clause-done : goal.returns-then-not-branch-2-clause-done
unfolding in_directory when under
returns-then-not-branch-2-clause-done c =
    let modules = had _ _ PathTooLong _ c.as_slice.ensures c.or_refuse.ensures c.in_ok-modules.was in
    done_bind _ (c.in_ok-is_directory.ensures.done _)
    (rw c.if-not-branch.false (made_fits _ (rw (c.normalize_with-built.ensures, c.requires) at modules)
    (done_bind _ (c.in_ok-is_directory-2.ensures.done _) (rw c.if-not-branch-2.true done_ret))))

pub returns-clause-done : goal.returns-clause-done
unfolding in_directory when under
returns-clause-done c =
    let modules = had _ _ PathTooLong _ c.as_slice.ensures c.or_refuse.ensures c.in_ok-modules.was in
    done_bind _ (c.in_ok-is_directory.ensures.done _)
    (rw c.if-not-branch.false (made_fits _ (rw (c.normalize_with-built.ensures, c.requires) at modules)
    (done_bind _ (c.in_ok-is_directory-2.ensures.done _) (rw c.if-not-branch-2.false c.in_modules.ensures.done))))
