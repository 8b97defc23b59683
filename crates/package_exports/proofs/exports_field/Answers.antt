-- A name is there, or the next one is looked for.
use Rattle.std.proofs.Common.{ap, ◌∙◌}
use Rattle.definition.specs.Manifest.{first_field}
use Rattle.settings.specs.Meaning.{texts_left}
use Rattle.directory.proofs.Manifests.{root_told}
use Rattle.package_exports.proofs.Fields.{passed_end, passed_more, passed_here}
use Rattle.package_exports.proofs.exports_field.Goals as goal

pub loop-name-init : goal.loop-name-init
loop-name-init c j h =
    ap (first_field j) (ap texts_left c.into_iter-name-iterator.ensures.into_iter_gives ∙ c.texts-name-items.ensures)

pub returns-in-Some-get : goal.returns-in-Some-get
returns-in-Some-get c =
    let p = c.args.package in
    passed_here p.manifest.now p.root _ _ _ _ c.in-Some.ensures.steps c.loop-name.invariant _
    (rw c.in-Some-get.is at c.get.ensures)
    _ (root_told _ _ p.rooted).stands

pub loop-name-preserved : goal.loop-name-preserved
loop-name-preserved c =
    let p = c.args.package in
    passed_more p.manifest.now p.root _ _ _ _ c.in-Some.ensures.steps c.loop-name.invariant
    (rw c.in_default.is at c.get.ensures)

pub returns : goal.returns
returns c =
    let p = c.args.package in
    passed_end p.manifest.now p.root _ _ c.in-None.ensures.steps.0 c.loop-name.invariant _
    (root_told _ _ p.rooted).stands
