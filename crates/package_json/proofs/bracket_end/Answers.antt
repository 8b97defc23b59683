-- By the byte that the loop is at.
use mathlib.Core.Path.{sym, ◌∙◌}
use native.Mathlib.Omega.{arith}
use Rattle.package_json.proofs.Walks.{bracket_cut, onward_cut, onward_text, onward_open, onward_out, onward_close, onward_on}
use Rattle.package_json.proofs.bracket_end.Goals as goal

pub returns-in_err-b : goal.returns-in_err-b
returns-in_err-b c =
    rw c.from_residual.ensures (bracket_cut c.args.m.now c.loop-b.i _ c.in_err-b.ensures.left ∙ sym c.loop-b.invariant.1)

pub returns-in_err-i : goal.returns-in_err-i
returns-in_err-i c =
    rw c.from_residual-in_err-i.ensures
    (onward_cut c.args.m.now c.loop-b.i _ c.in_ok-b.ensures.left c.if-b-eq34.true c.in_err-i.ensures.found ∙ sym c.loop-b.invariant.1)

pub loop-b-preserved-then-b-eq34 : goal.loop-b-preserved-then-b-eq34
loop-b-preserved-then-b-eq34 c = (
  omega (arith, c.in_ok-i.ensures.ahead),
  c.loop-b.invariant.1
      ∙ onward_text c.args.m.now c.loop-b.i _ c.in_ok-b.ensures.left _ c.if-b-eq34.true c.in_ok-i.ensures.found,
)

pub loop-b-preserved-then-opens_bracket : goal.loop-b-preserved-then-opens_bracket
loop-b-preserved-then-opens_bracket c = (
  omega arith,
  c.loop-b.invariant.1
      ∙ onward_open c.args.m.now c.loop-b.i _ c.in_ok-b.ensures.left c.if-b-eq34.false (sym c.opens_bracket.ensures ∙ c.if-opens_bracket.true),
)

pub returns-then-open-eq0 : goal.returns-then-open-eq0
returns-then-open-eq0 c =
    onward_out c.args.m.now c.loop-b.i _ c.in_ok-b.ensures.left c.if-b-eq34.false (sym c.opens_bracket.ensures ∙ c.if-opens_bracket.false)
    (sym c.closes_bracket.ensures ∙ c.if-closes_bracket.true) c.if-open-eq0.true
    ∙ sym c.loop-b.invariant.1

pub loop-b-preserved-then-closes_bracket : goal.loop-b-preserved-then-closes_bracket
loop-b-preserved-then-closes_bracket c = (
  omega arith,
  c.loop-b.invariant.1
      ∙ onward_close c.args.m.now c.loop-b.i _ c.in_ok-b.ensures.left c.if-b-eq34.false (sym c.opens_bracket.ensures ∙ c.if-opens_bracket.false)
      (sym c.closes_bracket.ensures ∙ c.if-closes_bracket.true) c.if-open-eq0.false,
)

pub loop-b-preserved : goal.loop-b-preserved
loop-b-preserved c = (
  omega arith,
  c.loop-b.invariant.1
      ∙ onward_on c.args.m.now c.loop-b.i _ c.in_ok-b.ensures.left c.if-b-eq34.false (sym c.opens_bracket.ensures ∙ c.if-opens_bracket.false)
      (sym c.closes_bracket.ensures ∙ c.if-closes_bracket.false),
)
