-- The lookup has ended, or nothing was found.
use Rattle.consults.specs.Tape.{done_bind, done_stop}
use Rattle.resolver.proofs.Lookups.{then_none}
use Rattle.resolver.proofs.walk.Goals as goal

pub returns-in-Continue-clause-done : goal.returns-in-Continue-clause-done
returns-in-Continue-clause-done c =
    then_none _ _ _ (done_bind _ (rw c.in-Continue.is at c.load_package.ensures.done) (c.not_found.ensures.done _))

pub returns-in-Break-clause-done : goal.returns-in-Break-clause-done
returns-in-Break-clause-done c = then_none _ _ _ (done_stop _ (rw c.in-Break.is at c.load_package.ensures.done))
