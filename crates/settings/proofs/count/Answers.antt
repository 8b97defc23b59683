-- The count of a kind is what its byte says, as far as the lengths reach.
use Rattle.std.proofs.Common.{◌∙◌}
use Rattle.settings.proofs.Steps.{count_here}
use Rattle.settings.proofs.count.Goals as goal

pub returns : goal.returns
returns c =
    let n = c.number-k.ensures in
    rw (← n.is) (c.room.ensures ∙ rw (c.byte.ensures.is, c.count_before-first.ensures.is) (count_here _ _ n.small))
