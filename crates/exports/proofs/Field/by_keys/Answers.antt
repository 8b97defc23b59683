-- The member that was selected, or none.
use Rattle.std.proofs.Common.{None, refl, ◌∙◌}
use Rattle.definition.specs.Settings.{texts_of}
use Rattle.definition.specs.Exports.{entries, select}
use Rattle.targets.specs.declared.Outcome.TheVariants.{Nothing}
use Rattle.targets.specs.Contexts.{context_of}
use Rattle.exports.specs.Chosen.{request_for}
use Rattle.exports.proofs.Selections.{none_selected, one_selected, asked_for}
use Rattle.exports.proofs.Resolutions.{subpath_is, imports_none, imports_some, applied}
use Rattle.exports.proofs.Field.by_keys.Goals as goal

pub returns-in_default-clause-result_after : goal.returns-in_default-clause-result_after
returns-in_default-clause-result_after c ms h =
    let m = c.args.self.manifest.now in
    let mk = c.args.match_key.now in
    let url = c.args.self.url.now in
    let absent = none_selected m mk None (select mk (entries ms)) (c.in_default.ensures ms h) refl in
    subpath_is m url mk _ c.unresolved.result c.args.c Nothing c.unresolved.ensures
    ∙ imports_none url (texts_of c.args.self.settings.now 0) mk (entries ms) (context_of m c.args.c) absent

pub returns-clause-result_after : goal.returns-clause-result_after
returns-clause-result_after c ms h =
    let m = c.args.self.manifest.now in
    let mk = c.args.match_key.now in
    let url = c.args.self.url.now in
    let conditions = texts_of c.args.self.settings.now 0 in
    let one = one_selected m mk _ (select mk (entries ms)) c.in-Some.member (c.in-Some.ensures ms h) refl in
    applied one.1.1 url conditions _ c.target.result
    ∙ c.target.ensures.result_after (request_for url conditions one.0) one.0.target
    (asked_for one.1.1 conditions _ refl c.matched_part.ensures) refl one.1.1.there
    ∙ imports_some url conditions mk (entries ms) (context_of m c.args.c) one.0 one.1.0
