-- The twelve bytes at the end, and what stands before them.
use Rattle.std.proofs.Common.{◌<◌, length, sym, ◌∙◌, arith, eq-eqb}
use Rattle.laws.specs.ListingNameLaws.{manifest_short, manifest_other, manifest_whole, manifest_behind}
use Rattle.listing_rules.proofs.is_manifest.Goals as goal

pub returns-in_default : goal.returns-in_default
returns-in_default c =
    let few : length c.args.p.now < 12 = omega (arith, c.in_default.ensures) in
    sym (manifest_short c.args.p.now few)

pub returns-then-k-eq0 : goal.returns-then-k-eq0
returns-then-k-eq0 c =
    let k = c.in-Some.ensures in
    eq-eqb _ _ c.if-k-eq0.true
    ∙ sym (manifest_whole c.args.p.now _ k.0 k.1 (sym c.equal.ensures ∙ c.if-equal.true) c.if-k-eq0.true)

pub returns-else-k-eq0 : goal.returns-else-k-eq0
returns-else-k-eq0 c =
    let k = c.in-Some.ensures in
    sym (manifest_behind c.args.p.now _ k.0 k.1 (sym c.equal.ensures ∙ c.if-equal.true) c.if-k-eq0.false)

pub returns-else-equal : goal.returns-else-equal
returns-else-equal c =
    let k = c.in-Some.ensures in
    c.if-equal.false ∙ sym (manifest_other c.args.p.now _ k.0 k.1 (sym c.equal.ensures ∙ c.if-equal.false))
