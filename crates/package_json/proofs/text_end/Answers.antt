-- By what stands where the plain bytes end.
use mathlib.Core.Path.{sym, ◌∙◌}
use native.Mathlib.Omega.{arith}
use Rattle.package_json.proofs.Walks.{text_cut, text_quote, text_escape}
use Rattle.package_json.proofs.text_end.Goals as goal

pub returns-in_err-b-clause-found : goal.returns-in_err-b-clause-found
returns-in_err-b-clause-found c =
    rw c.from_residual.ensures (text_cut c.args.m.now c.loop-b.i _ c.plain_end-stop.ensures c.in_err-b.ensures.left ∙ sym c.loop-b.invariant.1)

pub returns-then-b-eq34-clause-found : goal.returns-then-b-eq34-clause-found
returns-then-b-eq34-clause-found c =
    text_quote c.args.m.now c.loop-b.i _ c.plain_end-stop.ensures c.in_ok-b.ensures.left c.if-b-eq34.true
    ∙ sym c.loop-b.invariant.1

pub loop-b-preserved : goal.loop-b-preserved
loop-b-preserved c = (
  omega (arith, c.plain_end-stop.ensures),
  c.loop-b.invariant.1
      ∙ text_escape c.args.m.now c.loop-b.i _ c.plain_end-stop.ensures c.in_ok-b.ensures.left c.if-b-eq34.false,
)
