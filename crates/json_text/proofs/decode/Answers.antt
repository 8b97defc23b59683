-- By the laws of the loop that decodes a string.
use mathlib.Core.Path.{◌∙◌, ap}
use lib.ListN.{drop}
use Rattle.std.proofs.lemmas.Result.{err_from_is_err_and}
use Rattle.json_text.proofs.Buffer.{at_end_lem, on_bad, on_close, on_over, on_gives, put_none}
use native.Mathlib.Omega.{arith}
use Rattle.json_text.proofs.decode.Goals as goal
use Rattle.json_text.proofs.decode.Goals.{in-Some-out+in_ok-len-in-Gives, in_default-out}

pub returns-in_default : goal.returns-in_default
returns-in_default c =
    let g = c.loop-i.invariant.1 in
    record { is = on_bad g (omega arith) c.in_default.ensures; kept = (c.loop-i.len, g.kept) }

pub returns-in-Close : goal.returns-in-Close
returns-in-Close c =
    let g = c.loop-i.invariant.1 in
    record { is = on_close g (omega arith) (rw c.in-Close.is at c.in-Some.ensures); kept = (g.room, g.kept) }

pub returns-in_err-len-in-Gives : goal.returns-in_err-len-in-Gives
returns-in_err-len-in-Gives c =
    let g = c.loop-i.invariant.1 in
    let over = c.in_err-len-in-Gives.ensures in
    let out = err_from_is_err_and c.from_residual.result c.from_residual.ensures.1 in
    rw (out.1, out.2, over.0) (record {
      is = on_over g (omega arith) (rw (c.in-Gives.is, c.in-Some-out.is) at c.in-Some.ensures) over.1;
      kept = (c.loop-i.len, ap (drop c.loop-i.len) over.2 ∙ g.kept);
    })

pub loop-i-preserved : goal.loop-i-preserved
loop-i-preserved c =
    let g = c.loop-i.invariant.1 in (
      c.match-out.auto.w ∙ c.loop-i.invariant.0,
      elim c.match-out.branch [
        | in-Some-out+in_ok-len-in-Gives w ↦
            rw (w.w-is, w.place-is, w.len-is)
            (on_gives g (omega arith) (rw (c.in-Gives.is, w.in-Some-out.is) at c.in-Some.ensures) w.in_ok-len-in-Gives.ensures)
        | in_default-out w ↦
            rw (w.w-is, w.place-is, w.len-is)
            (on_gives g (omega arith) (rw (c.in-Gives.is, w.in_default-out.is) at c.in-Some.ensures) (put_none _ _ g.room))
      ],
    )

pub returns : goal.returns
returns c =
    let g = c.loop-i.invariant.1 in
    record { is = at_end_lem g (omega arith); kept = (c.loop-i.len, g.kept) }
