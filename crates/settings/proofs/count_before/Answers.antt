-- The counts before that of kind k are summed.
use Rattle.settings.proofs.Steps.{sum_is, before_is}
use Rattle.settings.proofs.count_before.Goals as goal

pub returns-clause-is : goal.returns-clause-is
returns-clause-is c =
    rw (c.total.ensures.is, c.part.ensures, before_is c.args.s.now c.args.k, sum_is)
