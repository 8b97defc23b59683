-- The member ".", or the object itself where no key is a subpath's.
use Rattle.std.proofs.Common.{Some, None, refl, sym, ◌∙◌, ap}
use Rattle.definition.specs.Text.{text}
use Rattle.definition.specs.Json.{obj}
use Rattle.definition.specs.Settings.{texts_of}
use Rattle.definition.specs.Exports.{entries, get, main_export}
use Rattle.package_target.proofs.Loops.{nothing_yet}
use Rattle.exports.specs.Chosen.{fresh}
use Rattle.exports.proofs.Selections.{get_finds, finds_some, finds_none}
use Rattle.exports.proofs.Resolutions.{main_dot, main_none, main_whole, main_off, main_on}
use Rattle.exports.proofs.Field.main_of_object.Goals as goal

pub returns-then-not-equal-clause-result_after : goal.returns-then-not-equal-clause-result_after
returns-then-not-equal-clause-result_after c ms go h s =
    ap go (c.new.ensures _)
    ∙ main_off c.args.self.url.now (texts_of c.args.self.settings.now 0) c.args.subpath.now fresh
    (main_export (obj ms)) go
    (sym c.if-not-equal.ensures)

pub returns-in-Some-clause-result_after : goal.returns-in-Some-clause-result_after
returns-in-Some-clause-result_after c ms go h s =
    let m = c.args.self.manifest.now in
    let url = c.args.self.url.now in
    let conditions = texts_of c.args.self.settings.now 0 in
    let sub = c.args.subpath.now in
    let dot = text "." in
    let there = get_finds m c.args.self.at (Some c.in-Some.dot) dot c.in-Some.ensures 14 ms h in
    let f = finds_some m 14 (get dot (entries ms)) (Some c.in-Some.dot) _ there refl in
    c.main_at.ensures.result_after f.0 sub go f.1.1
    ∙ main_on url conditions sub fresh (main_export (obj ms)) go (sym c.if-not-equal.ensures) _
    (main_dot url conditions ms fresh f.0 f.1.0)

pub returns-in-None-clause-result_after : goal.returns-in-None-clause-result_after
returns-in-None-clause-result_after c ms go h s =
    let m = c.args.self.manifest.now in
    let url = c.args.self.url.now in
    let conditions = texts_of c.args.self.settings.now 0 in
    let sub = c.args.subpath.now in
    let dot = text "." in
    let absent =
    finds_none m 14 (get dot (entries ms)) None (get_finds m c.args.self.at None dot c.in-None.ensures 14 ms h) refl in
    ap go (c.new-in-None.ensures _)
    ∙ main_on url conditions sub fresh (main_export (obj ms)) go (sym c.if-not-equal.ensures) (nothing_yet fresh)
    (main_none url conditions ms fresh absent (sym s ∙ c.if-subpaths.true))

pub returns-in-None-2-clause-result_after : goal.returns-in-None-2-clause-result_after
returns-in-None-2-clause-result_after c ms go h s =
    let m = c.args.self.manifest.now in
    let url = c.args.self.url.now in
    let conditions = texts_of c.args.self.settings.now 0 in
    let sub = c.args.subpath.now in
    let dot = text "." in
    let absent =
    finds_none m 14 (get dot (entries ms)) None (get_finds m c.args.self.at None dot c.in-None.ensures 14 ms h) refl in
    c.main_at-in-None-2.ensures.result_after (obj ms) sub go h
    ∙ main_on url conditions sub fresh (main_export (obj ms)) go (sym c.if-not-equal.ensures) _
    (main_whole url conditions ms fresh absent (sym s ∙ c.if-subpaths.false))
