-- A literal key is taken, and else the best pattern key.
use Rattle.std.proofs.Common.{Some, None, refl, sym}
use Rattle.definition.specs.Exports.{entries, literal}
use Rattle.exports.proofs.Selections.{finds_some, finds_none, slash_selects, literal_selects, pattern_selects}
use Rattle.exports.proofs.Map.select.Goals as goal

pub returns-then-ends_with : goal.returns-then-ends_with
returns-then-ends_with c ms h =
    slash_selects c.args.self.manifest.now c.args.match_key.now (entries ms) (sym c.if-ends_with.ensures)

pub returns-in-Some : goal.returns-in-Some
returns-in-Some c ms h =
    let m = c.args.self.manifest.now in
    let mk = c.args.match_key.now in
    let f = finds_some m 14 (literal mk (entries ms)) (Some c.in-Some.value) _ (c.in-Some.ensures ms h) refl in
    literal_selects m mk (entries ms) (sym c.if-ends_with.ensures) _ f.0 f.1.0 f.1.1

pub returns-in-None : goal.returns-in-None
returns-in-None c ms h =
    let m = c.args.self.manifest.now in
    let mk = c.args.match_key.now in
    let absent = finds_none m 14 (literal mk (entries ms)) None (c.in-None.ensures ms h) refl in
    pattern_selects m mk (entries ms) (sym c.if-ends_with.ensures) absent c.pattern.result (c.pattern.ensures ms h)
