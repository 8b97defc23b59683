-- A path that is not below, and is not equal either, ends the search.
use Rattle.std.proofs.Common.{◌≡◌, ◌+◌, ◌<◌, refl, sym, ◌∙◌, arith}
use Rattle.std.proofs.lemmas.Bool.{false≢true}
use mathlib.Core.Bool.{true≢false}
use Rattle.laws.specs.ListingSteps.{path_length_at}
use Rattle.laws.specs.SearchLaws.{Stopping}
use Rattle.listing.proofs.Seek.{stop_first, ends_within, stop_none, below_next, rest_below}
use Rattle.listing.proofs.all_below.Goals as goal
use Rattle.listing.proofs.all_below.Goals.{else-not-starts_below-via-then-not-starts_below+else-not-is_below}
use Rattle.listing.proofs.all_below.Goals.{else-not-starts_below-via-else-not-starts_below}

pub loop-spot-init : goal.loop-spot-init
loop-spot-init c =
    let f = c.args.first in
    ((refl, refl), omega arith, stop_first f.listing.now c.args.path.now f.count f.index f.at f.reached c.requires.0)

pub end-requires : goal.end-requires
end-requires c = omega (arith, c.loop-spot.invariant.0.1, c.loop-spot-test.true, c.requires.1)

pub slice_bounds-is_below-end : goal.slice_bounds-is_below-end
slice_bounds-is_below-end c =
    let v = c.loop-spot.invariant in
    let s = c.loop-spot.spot in
    let l = c.args.first.listing.now in
    ends_within l c.args.path.now s.count s.index s.at _ (rw v.0.0 at s.reached)
    (omega (arith, v.0.1, c.loop-spot-test.true, c.requires.1)) (rw v.0.0 at c.end.ensures.is) c.args.to
    c.loop-spot-test.true c.requires.2

pub returns-then-not-is_below : goal.returns-then-not-is_below
returns-then-not-is_below c =
    let v = c.loop-spot.invariant in
    let s = c.loop-spot.spot in
    let l = c.args.first.listing.now in (
      λ e. absurd (false≢true e),
      λ e z. stop_none l c.args.path.now s.count s.index s.at _ (rw v.0.0 at s.reached)
          (omega (arith, v.0.1, c.loop-spot-test.true, c.requires.1)) (rw v.0.0 at c.end.ensures.is) c.args.to
          c.loop-spot-test.true c.requires.2 z
          v.2 (sym c.is_below.ensures ∙ c.if-not-is_below.true),
    )

pub loop-spot-preserved : goal.loop-spot-preserved
loop-spot-preserved c =
    let v = c.loop-spot.invariant in
    let s = c.loop-spot.spot in
    let l = c.args.first.listing.now in
    let p = c.args.path.now in
    let n = c.next-spot in
    let same : n.result.listing.now ≡ l = n.ensures.0 ∙ v.0.0 in
    let place = rw (same, n.ensures.2) at n.result.reached.place in
    let r = rw v.0.0 at s.reached in
    let h : s.index < s.count = omega (arith, v.0.1, c.loop-spot-test.true, c.requires.1) in
    let on : Stopping l p (s.index + 1) n.result.at =
    elim c.else-not-starts_below.branch [
      | else-not-starts_below-via-then-not-starts_below+else-not-is_below w ↦
          below_next l p s.count s.index s.at _ r h (rw v.0.0 at w.end.ensures.is)
          (sym w.is_below.ensures ∙ w.if-not-is_below.false) place v.2
      | else-not-starts_below-via-else-not-starts_below w ↦
          below_next l p s.count s.index s.at (s.at + path_length_at l s.index) r h refl
          (rest_below l p s.at _ (c.starts_below.ensures w.if-not-starts_below.false p c.of-w.ensures)) place v.2
    ]
    in
    ((same, n.ensures.1 ∙ v.0.1), omega (arith, n.ensures.2, c.loop-spot-test.true), rw n.ensures.2 on)

pub returns : goal.returns
returns c =
    let v = c.loop-spot.invariant in
    let s = c.loop-spot.spot in
    let e : s.index ≡ c.args.to = omega (arith, v.1, c.loop-spot-test.false) in
    let place = rw (v.0.0, e) at s.reached.place in
    (λ _. rw (← place, ← e) v.2, λ e. absurd (true≢false e))
