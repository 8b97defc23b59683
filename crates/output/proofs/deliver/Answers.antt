-- `output::deliver` meets its contract, by the laws of `Delivering`.
use mathlib.Core.Path.{sym, ◌∙◌}
use Rattle.output.proofs.Delivering.{checked_refusal, when_refused, when_accepted, same_number, never_both, checked_room, delivered_by}
use Rattle.output.specs.Left.{rooms_in}
use Rattle.output.proofs.deliver.Goals as goal

pub fill-requires : goal.fill-requires
fill-requires c = checked_room _ _ _ _ _ (sym c.check.ensures ∙ c.in-Ok.is)

pub returns-in-Err-clause-done : goal.returns-in-Err-clause-done
returns-in-Err-clause-done c e l w g =
    when_refused _ _ _ _ _ _
    (delivered_by _ _ _ c.check.ensures (checked_refusal (rooms_in c.args.tape.now w) e l _ _ g.counted))
    _ c.in-Err.is (c.refuse.ensures.zeros w)

pub returns-in-Err-clause-refused : goal.returns-in-Err-clause-refused
returns-in-Err-clause-refused c n w h =
    rw (same_number _ n _ c.in-Err.is (rw c.check.ensures h)) at (c.refuse.ensures.zeros w)

pub returns-in-Ok-clause-done : goal.returns-in-Ok-clause-done
returns-in-Ok-clause-done c e l w g =
    when_accepted _ _ _ _ _ _
    (delivered_by _ _ _ c.check.ensures (checked_refusal (rooms_in c.args.tape.now w) e l _ _ g.counted))
    c.in-Ok.is (c.fill.ensures.written e l w g)

pub returns-in-Ok-clause-refused : goal.returns-in-Ok-clause-refused
returns-in-Ok-clause-refused c n w h = absurd (never_both _ n c.in-Ok.is (rw c.check.ensures h))
