-- By one step more at a time.
use native.Mathlib.Omega.{arith}
use Rattle.package_json.proofs.Walks.{further_cut, further_on, further_done}
use Rattle.package_json.proofs.steps.Goals as goal

pub returns-in_err-here : goal.returns-in_err-here
returns-in_err-here g c m n h =
    rw c.from_residual.ensures (further_cut n _ (c.loop.invariant.1 m n h) (omega arith) (h _ _ c.in_err-here.ensures))

pub loop-preserved : goal.loop-preserved
loop-preserved g c =
    (c.loop.invariant.0, λ m n h. further_on n _ (c.loop.invariant.1 m n h) _ (omega arith) (omega arith) (h _ _ c.in_ok-here.ensures))

pub returns : goal.returns
returns g c m n h = further_done n _ (c.loop.invariant.1 m n h) (omega arith)
