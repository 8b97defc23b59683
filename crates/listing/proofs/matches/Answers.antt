-- Texts of other lengths or other last bytes are not equal.
use mathlib.Core.Path.{sym, ◌∙◌}
use native.Mathlib.Omega.{arith}
use Rattle.laws.specs.ListingSteps.{match_long, match_beyond, match_inside}
use Rattle.listing.proofs.Seek.{match_tail}
use Rattle.listing.proofs.matches.Goals as goal

pub returns-then-end-at : goal.returns-then-end-at
returns-then-end-at c =
    let a = c.args in
    sym (match_long a.l.now a.at a.end a.path.now c.requires (λ z. omega (arith, z, c.if-end-at.true)))

pub returns-then-end-l : goal.returns-then-end-l
returns-then-end-l c =
    let a = c.args in
    sym (match_beyond a.l.now a.at a.end a.path.now c.if-end-l.true)

pub returns-then-low : goal.returns-then-low
returns-then-low c =
    let a = c.args in
    sym (match_tail a.l.now a.at a.end a.path.now (omega (arith, c.if-end-l.false))
    (omega (arith, c.if-end-at-ge8.true))
    (λ z. c.if-low.true (c.low.ensures ∙ z ∙ sym c.low-then-end-at-ge8.ensures)))

pub returns : goal.returns
returns c =
    let a = c.args in
    c.same.ensures ∙ sym (match_inside a.l.now a.at a.end a.path.now (omega (arith, c.if-end-l.false)))
