-- What was found, or else the path is not exported.
use Rattle.std.proofs.Common.{sym, ◌∙◌, rules}
use Rattle.definition.specs.Settings.{settings_of}
use Rattle.targets.specs.declared.Outcome.TheVariants.{NotExported}
use Rattle.package_target.proofs.Places.{stands_at}
use Rattle.exports.proofs.Resolutions.{subpath_is}
use Rattle.exports.proofs.package_exports_resolve.Goals as goal

pub returns-in-Break-clause-result_after : goal.returns-in-Break-clause-result_after
unfolding settings_of
returns-in-Break-clause-result_after c j l h =
    let e = c.in-Break.ensures.result_after j (stands_at h) in
    let p = sym c.in-Break.ensures.same.path in
    search (rules, e, p)

pub returns-in-Continue-clause-result_after : goal.returns-in-Continue-clause-result_after
unfolding settings_of
returns-in-Continue-clause-result_after c j l h =
    subpath_is _ c.args.field.url.now c.args.subpath.now _ c.unresolved-in-Continue.result c.in-Continue.context
    NotExported
    c.unresolved-in-Continue.ensures
    ∙ c.in-Continue.ensures.result_after j (stands_at h)

pub returns-in-Break-clause-texted : goal.returns-in-Break-clause-texted
returns-in-Break-clause-texted c =
    let e = c.in-Break.ensures.texted in let p = sym c.in-Break.ensures.same.path in search (rules, e, p)
