-- What is left begins where the next text starts, and every text so far has passed.
use Rattle.settings.proofs.Checked.{Left}
use Rattle.settings.proofs.check.Given as goal

abbrev pub invariant-loop-k : goal.invariant-loop-k
invariant-loop-k l = Left l.s l.rest l.k
