-- By the kind of the value.
use Rattle.std.proofs.Common.{◌∙◌, ap}
use Rattle.definition.specs.Settings.{texts_of}
use Rattle.package_target.proofs.Loops.{is-object}
use Rattle.exports.specs.Chosen.{fresh, not_exported}
use Rattle.exports.proofs.Resolutions.{exports_scalar}
use Rattle.exports.proofs.Field.found.Goals as goal

pub returns-in-Scalar-clause-result_after : goal.returns-in-Scalar-clause-result_after
returns-in-Scalar-clause-result_after c j h =
    let url = c.args.self.url.now in
    let sub = c.args.subpath.now in
    ap (not_exported url sub) (c.new.ensures _)
    ∙ exports_scalar url (texts_of c.args.self.settings.now 0) sub fresh j (c.in-Scalar.ensures 15 j h)

pub returns-in-Object-clause-result_after : goal.returns-in-Object-clause-result_after
returns-in-Object-clause-result_after c j h =
    let k = is-object j (c.in-Object.ensures 15 j h) in
    rw k.1 (c.object.ensures.result_after k.0 (rw k.1 at h))
