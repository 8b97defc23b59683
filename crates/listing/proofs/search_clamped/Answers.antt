-- The search among the entries from the i-th on is the search among all.
use mathlib.Core.Path.{sym, ◌∙◌}
use native.Mathlib.Omega.{arith}
use Rattle.laws.specs.SearchLaws.{here_below, here_same, here_past, place_begin, place_end}
use Rattle.listing.proofs.search_clamped.Goals as goal

pub loop-i-init : goal.loop-i-init
loop-i-init c = (omega arith, place_begin c.args.l.now c.args.path.now _ _ c.requires.0 c.reach-at.ensures)

pub clamped-p-requires : goal.clamped-p-requires
clamped-p-requires c = (c.requires.0, c.requires.1, c.loop-i-test.true, c.loop-i.invariant.0)

pub returns-then-not-same : goal.returns-then-not-same
returns-then-not-same c =
    let a = c.args in
    let p = c.clamped-p.ensures in
    sym (here_past a.l.now a.path.now _ _ _ _ _ p.starts p.ends p.inside p.rows
    (sym c.is_below.ensures ∙ c.if-not-is_below.true) (sym c.same.ensures
    ∙ c.if-not-same.true)) ∙ c.loop-i.invariant.1

pub returns-then-p : goal.returns-then-p
returns-then-p c =
    let a = c.args in
    let p = c.clamped-p.ensures in
    rw c.if-p.true at (sym
    (here_same a.l.now a.path.now _ _ _ _ _ p.starts p.ends p.inside p.rows
    (sym c.same.ensures ∙ c.if-not-same.false)) ∙ c.loop-i.invariant.1)

pub returns-then-not-is_below : goal.returns-then-not-is_below
returns-then-not-is_below c =
    let a = c.args in
    let p = c.clamped-p.ensures in
    rw c.if-p.false at (sym
    (here_same a.l.now a.path.now _ _ _ _ _ p.starts p.ends p.inside p.rows
    (sym c.same.ensures ∙ c.if-not-same.false)) ∙ c.loop-i.invariant.1)

pub loop-i-preserved : goal.loop-i-preserved
loop-i-preserved c =
    let a = c.args in
    let p = c.clamped-p.ensures in (
      p.inside,
      sym (here_below a.l.now a.path.now _ _ _ _ _ p.starts p.ends p.inside p.rows
          (sym c.is_below.ensures ∙ c.if-not-is_below.false)) ∙ c.loop-i.invariant.1,
    )

pub returns : goal.returns
returns c =
    sym (place_end c.args.l.now c.args.path.now c.loop-i.i c.loop-i.at
    (omega (arith, c.requires.0, c.loop-i-test.false))) ∙ c.loop-i.invariant.1
