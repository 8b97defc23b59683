-- The limit of a path, and contents in a manifest alone.
use Rattle.std.proofs.Common.{◌≡◌, ◌<◌, length, sym, ◌∙◌, arith}
use borrow.Author.Tests.{eqb-true, eqb-false, lt-leb}
use Rattle.laws.specs.ListingOrder.{sized_long, sized_empty, sized_full}
use Rattle.listing_rules.proofs.is_sized.Goals as goal

pub returns-then-is_empty : goal.returns-then-is_empty
returns-then-is_empty c d =
    let e : length c.args.inner.now ≡ 0 = eqb-true _ _ (sym c.is_empty.ensures ∙ c.if-is_empty.true) in
    c.if-is_empty.true ∙ sym (sized_empty _ d _ c.if-path-le1024.true e)

pub returns-else-is_empty : goal.returns-else-is_empty
returns-else-is_empty c d =
    let e = eqb-false (length c.args.inner.now) 0 (sym c.is_empty.ensures ∙ c.if-is_empty.false) in
    c.is_manifest.ensures ∙ sym (sized_full _ d _ c.if-path-le1024.true e)

pub returns-else-path-le1024 : goal.returns-else-path-le1024
returns-else-path-le1024 c d =
    let l : 1024 < length c.args.path.now = omega arith in
    lt-leb _ _ l ∙ sym (sized_long _ d _ l)
