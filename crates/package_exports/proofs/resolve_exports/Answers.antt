-- The field gives a path, or it ends the lookup.
use Rattle.std.proofs.Common.{rules, refl}
use Rattle.refusal.specs.declared.Refusal.TheVariants.{PathTooLong}
use Rattle.targets.specs.Contexts.{context_of}
use Rattle.exports.specs.Chosen.{resolved_of}
use Rattle.consults.specs.Meaning.{seen_in}
use Rattle.directory.proofs.Rooms.{was_done, enough, fits}
use Rattle.package_exports.proofs.Fields.{text_or_empty, exports_ended, exports_found}
use Rattle.package_exports.proofs.resolve_exports.Goals as goal

pub returns-in_err-exports_ending-clause-done : goal.returns-in_err-exports_ending-clause-done
returns-in_err-exports_ending-clause-done c j h =
    let p = c.args.package in
    let x = c.package_exports_resolve-resolved in
    let f = text_or_empty _ _ _ c.as_slice.ensures c.unwrap_or-target.ensures refl in
    rw c.from_residual.ensures
    (exports_ended _ _ _ _ j (resolved_of p.manifest.now p.dir.now c.args.subpath.now _ x.result)
    (x.ensures.result_after j (search rules) h)
    (was_done (fits PathTooLong 2048 _ _ (search rules) p.fits)
    (rw f at (c.in_err-exports_ending.ensures.done (seen_in c.args.job)
    (context_of p.manifest.now x.result.answer.context)))))

pub returns-clause-done : goal.returns-clause-done
returns-clause-done c j h =
    let p = c.args.package in
    let x = c.package_exports_resolve-resolved in
    let f = text_or_empty _ _ _ c.as_slice.ensures c.unwrap_or-target.ensures refl in
    exports_found _ _ _ _ j (resolved_of p.manifest.now p.dir.now c.args.subpath.now _ x.result)
    (x.ensures.result_after j (search rules) h) _
    (was_done (fits PathTooLong 2048 _ _ (search rules) p.fits)
    (rw f at (c.in_ok-exports_ending.ensures.done (seen_in c.args.job)
    (context_of p.manifest.now x.result.answer.context))))
    (was_done (enough _ (search rules)) (rw f at c.resolve_in_context.ensures.done))
