-- Mixed keys are refused; else the main export comes before the keys.
use Rattle.std.proofs.Common.{◌&&◌, sym, ◌∙◌, ap}
use Rattle.definition.specs.Path.{manifest_of}
use Rattle.definition.specs.Settings.{texts_of}
use Rattle.definition.specs.Exports.{failed, InvalidPackageConfig, or_go_on}
use Rattle.targets.specs.declared.Outcome.TheVariants.{ConfigMixed}
use Rattle.exports.specs.declared.KeyMarks.{KeyMarks}
use Rattle.exports.specs.Chosen.{fresh, not_exported}
use Rattle.exports.proofs.Resolutions.{subpath_is, object_mixed, then_keys, object_is}
use Rattle.exports.proofs.Field.object.Goals as goal

pub returns-then-are_mixed-clause-result_after : goal.returns-then-are_mixed-clause-result_after
returns-then-are_mixed-clause-result_after c ms h =
    let m = c.args.self.manifest.now in
    let url = c.args.self.url.now in
    let conditions = texts_of c.args.self.settings.now 0 in
    let sub = c.args.subpath.now in
    let keys = c.keys-keys.ensures ms h in
    subpath_is m url sub _ c.unresolved.result c.new.result ConfigMixed c.unresolved.ensures
    ∙ ap (λ x. record { context = x; outcome = failed (InvalidPackageConfig (manifest_of url)) }) (c.new.ensures _)
    ∙ object_mixed url conditions sub fresh ms
    (ap (λ (k : KeyMarks). k.dot && k.other) (sym keys) ∙ sym c.if-are_mixed.ensures)

pub returns-in_err-context-clause-result_after : goal.returns-in_err-context-clause-result_after
returns-in_err-context-clause-result_after c ms h =
    let m = c.args.self.manifest.now in
    let url = c.args.self.url.now in
    let conditions = texts_of c.args.self.settings.now 0 in
    let sub = c.args.subpath.now in
    let keys = c.keys-keys.ensures ms h in
    rw c.from_residual.ensures
    (c.in_err-context.ensures.result_after ms (then_keys url conditions sub fresh ms) h
    (ap (λ (k : KeyMarks). k.subpath) keys)
    ∙ object_is url conditions sub fresh ms
    (ap (λ (k : KeyMarks). k.dot && k.other) (sym keys) ∙ sym c.if-are_mixed.ensures))

pub returns-clause-result_after : goal.returns-clause-result_after
returns-clause-result_after c ms h =
    let m = c.args.self.manifest.now in
    let url = c.args.self.url.now in
    let conditions = texts_of c.args.self.settings.now 0 in
    let sub = c.args.subpath.now in
    let keys = c.keys-keys.ensures ms h in
    c.unless_nothing.ensures.value m url sub _ (not_exported url sub)
    ∙ ap (λ x. or_go_on x (not_exported url sub)) (c.by_keys.ensures.result_after ms h)
    ∙ c.in_ok-context.ensures.result_after ms (then_keys url conditions sub fresh ms) h
    (ap (λ (k : KeyMarks). k.subpath) keys)
    ∙ object_is url conditions sub fresh ms
    (ap (λ (k : KeyMarks). k.dot && k.other) (sym keys) ∙ sym c.if-are_mixed.ensures)

pub returns-clause-texted : goal.returns-clause-texted
returns-clause-texted c = c.unless_nothing.ensures.texted _ c.by_keys.ensures.texted
