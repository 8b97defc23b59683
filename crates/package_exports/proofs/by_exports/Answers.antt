-- Without an exports field nothing is asked; else the subpath is dotted.
use Rattle.definition.specs.Settings.{settings_of}
use Rattle.refusal.specs.declared.Refusal.TheVariants.{PathTooLong}
use Rattle.consults.proofs.Ways.{wanted, had}
use Rattle.package_exports.proofs.Fields.{dotted_text, never_long, exports_missing, exports_there}
use Rattle.package_exports.proofs.by_exports.Goals as goal

pub returns-in_default-clause-done : goal.returns-in_default-clause-done
unfolding settings_of
returns-in_default-clause-done c =
    exports_missing _ _ _ _ _ c.args.package.manifest.now (rw c.in_default.is at c.exports_field.ensures)

pub returns-in_err-subpath-clause-done : goal.returns-in_err-subpath-clause-done
returns-in_err-subpath-clause-done c =
    let (long, is) = wanted _ _ PathTooLong _ c.as_slice.ensures c.or_refuse.ensures c.in_err-subpath.was in
    never_long c.args.sub.now c.requires c.dotted-dotted.ensures long

pub returns-clause-done : goal.returns-clause-done
unfolding settings_of
returns-clause-done c =
    let path = had _ _ PathTooLong _ c.as_slice.ensures c.or_refuse.ensures c.in_ok-subpath.was in
    let dotted = dotted_text c.args.sub.now c.requires c.dotted-dotted.ensures path in
    exports_there _ _ _ _ _ c.args.package.manifest.now _ (rw c.in-Some.is at c.exports_field.ensures)
    (λ k g. rw dotted at (c.resolve_exports.ensures.done k g))
