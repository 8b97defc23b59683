-- The main export, for "." alone.
use Rattle.std.proofs.Common.{sym, ◌∙◌, ap}
use Rattle.definition.specs.Settings.{texts_of}
use Rattle.exports.specs.Chosen.{fresh, not_exported}
use Rattle.exports.proofs.Resolutions.{whole_other, whole_main}
use Rattle.exports.proofs.Field.whole.Goals as goal

pub returns-then-not-equal-clause-result_after : goal.returns-then-not-equal-clause-result_after
returns-then-not-equal-clause-result_after c j w h =
    let url = c.args.self.url.now in
    let sub = c.args.subpath.now in
    ap (not_exported url sub) (c.new.ensures _)
    ∙ whole_other url (texts_of c.args.self.settings.now 0) sub fresh j w (sym c.if-not-equal.ensures)

pub returns-clause-result_after : goal.returns-clause-result_after
returns-clause-result_after c j w h =
    let url = c.args.self.url.now in
    let sub = c.args.subpath.now in
    c.main_at.ensures.result_after j sub (not_exported url sub) h
    ∙ whole_main url (texts_of c.args.self.settings.now 0) sub fresh j w (sym c.if-not-equal.ensures)
