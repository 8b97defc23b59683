-- Two refusals; then by the directory's own manifest, if it has one.
use Rattle.refusal.specs.declared.Refusal.TheVariants.{Specifier}
use Rattle.consults.specs.Meaning.{settings_in}
use Rattle.directory.proofs.Rooms.{is_done, is_refused_lem, lent_fits, lent_long, not_lent_either}
use Rattle.package_exports.proofs.Fields.{package_ended, package_bare, package_manifest}
use Rattle.package_exports.proofs.load_package_exports.Goals as goal

pub returns-in_err-work-clause-done : goal.returns-in_err-work-clause-done
returns-in_err-work-clause-done c =
    rw c.from_residual.ensures
    (not_lent_either _ _ _ c.first_chunk_mut.ensures.cases c.or_refuse.ensures Specifier 512 _ c.in_err-work.was)

pub returns-then-sub-gt512-clause-done : goal.returns-then-sub-gt512-clause-done
returns-then-sub-gt512-clause-done c =
    let lent = lent_long _ _ _ c.first_chunk_mut.ensures.cases c.or_refuse.ensures Specifier 512 _ c.in_ok-work.was in
    rw c.refuse.ensures (is_refused_lem _ Specifier (lent c.if-sub-gt512.true))

pub returns-in_err-package-clause-done : goal.returns-in_err-package-clause-done
returns-in_err-package-clause-done c =
    let lent = lent_fits _ _ _ c.first_chunk_mut.ensures.cases c.or_refuse.ensures Specifier 512 _ c.in_ok-work.was in
    rw c.from_residual-in_err-package.ensures
    (is_done _ (lent c.if-sub-gt512.false)
    (package_ended _ _ _ _ (c.in_err-package.ensures.done (settings_in c.args.job))))

pub returns-in_default-clause-done : goal.returns-in_default-clause-done
returns-in_default-clause-done c =
    let lent = lent_fits _ _ _ c.first_chunk_mut.ensures.cases c.or_refuse.ensures Specifier 512 _ c.in_ok-work.was in
    is_done _ (lent c.if-sub-gt512.false)
    (package_bare _ _ _ _ (rw c.in_default.is at (c.in_ok-package.ensures.done (settings_in c.args.job))))

pub returns-clause-done : goal.returns-clause-done
returns-clause-done c =
    let lent = lent_fits _ _ _ c.first_chunk_mut.ensures.cases c.or_refuse.ensures Specifier 512 _ c.in_ok-work.was in
    is_done _ (lent c.if-sub-gt512.false)
    (package_manifest _ _ _ _ _ (rw c.in-Some.is at (c.in_ok-package.ensures.done (settings_in c.args.job)))
    (rw (rw c.in-Some.is at c.in_ok-package.ensures.here) at c.by_exports.ensures.done))
