-- The "/" that is met first from behind is the last, and the bytes behind it were all looked at.
use Rattle.std.proofs.Common.{◌≡◌, ◌+◌, ◌-◌, ◌≤◌, ◌<◌, length, get_or, refl, sym, ◌∙◌, ap, arith}
use mathlib.Core.Logic.{⊎_elim}
use Rattle.std.proofs.lemmas.Bool.{false≢true}
use Rattle.definition.specs.Text.{slash}
use Rattle.laws.specs.TextSteps.{contains_end, contains_not}
use Rattle.laws.specs.ListingNameLaws.{is_name}
use Rattle.listing_rules.proofs.Names.{plain_end, plain_next, rest_is, at_slash, no_slash}
use Rattle.listing_rules.proofs.slash_before_name.Goals as goal
use Rattle.listing_rules.proofs.slash_before_name.Goals.{else-loop-i-test, then-loop-i-test+then-q-i-eq47}

pub loop-i-init : goal.loop-i-init
loop-i-init c =
    let q = c.args.q.now in
    (refl, contains_end slash q (length q) (omega arith), λ _. plain_end q (length q) (omega arith))

pub loop-i-preserved-then-plain : goal.loop-i-preserved-then-plain
loop-i-preserved-then-plain c =
    let q = c.args.q.now in
    let o = c.loop-i in
    let e : o.i - 1 + 1 ≡ o.i = omega arith in
    let h : o.i - 1 < length q = omega arith in (
      o.invariant.0,
      contains_not slash q (o.i - 1) h c.if-q-i-eq47.false ∙ rw e o.invariant.1,
      λ t. plain_next q (o.i - 1) h (sym c.is_plain-plain.ensures ∙ t) (rw e (o.invariant.2 c.if-plain.true)),
    )

pub loop-i-preserved : goal.loop-i-preserved
loop-i-preserved c =
    let q = c.args.q.now in
    let o = c.loop-i in
    let e : o.i - 1 + 1 ≡ o.i = omega arith in
    let h : o.i - 1 < length q = omega arith in (
      o.invariant.0,
      contains_not slash q (o.i - 1) h c.if-q-i-eq47.false ∙ rw e o.invariant.1,
      λ t. absurd (false≢true (sym c.if-plain.false ∙ t)),
    )

pub returns-in_err-name : goal.returns-in_err-name
returns-in_err-name c =
    let q = c.args.q.now in
    let v = c.loop-i.invariant in
    let out : length q ≤ c.loop-i-test.slash =
    ⊎_elim (λ n. omega arith) (λ n. omega arith) c.in_err-name.ensures.lookup.0 in
    elim c.loop-i-test.branch [
      | else-loop-i-test w ↦
          let e : c.loop-i.i ≡ 0 = omega (arith, w.loop-i-test.false) in
          c.from_residual.ensures ∙ no_slash q (rw e at v.1)
      | then-loop-i-test+then-q-i-eq47 w ↦ let z : ⊥ = omega (arith, out, w.slash-is, w.loop-i-test.true) in absurd z
    ]

pub is_name-requires : goal.is_name-requires
is_name-requires c =
    let q = c.args.q.now in
    let o = c.loop-i in
    let h = c.in_ok-name.ensures.lookup.0 in
    elim c.loop-i-test.branch [
      | else-loop-i-test w ↦ let z : ⊥ = omega (arith, h.0, w.slash-is, o.invariant.0) in absurd z
      | then-loop-i-test+then-q-i-eq47 w ↦
          let e : o.i ≡ c.loop-i-test.slash + 1 = omega (arith, w.slash-is, w.loop-i-test.true) in
          λ t. rw (h.2 ∙ rest_is q _, ← e) (o.invariant.2 t)
    ]

pub returns : goal.returns
returns c =
    let q = c.args.q.now in
    let s = c.loop-i-test.slash in
    let o = c.loop-i in
    let h = c.in_ok-name.ensures.lookup.0 in
    elim c.loop-i-test.branch [
      | else-loop-i-test w ↦ let z : ⊥ = omega (arith, h.0, w.slash-is, o.invariant.0) in absurd z
      | then-loop-i-test+then-q-i-eq47 w ↦
          let e : o.i ≡ s + 1 = omega (arith, w.slash-is, w.loop-i-test.true) in
          let here : get_or q s 0 ≡ slash = rw w.slash-is w.if-q-i-eq47.true in
          let named = c.is_name.ensures ∙ ap is_name (h.2 ∙ rest_is q (s + 1)) in
          c.then_some.ensures ∙ at_slash q s _ (omega (arith, h.0)) here (rw e at o.invariant.1) named
    ]
