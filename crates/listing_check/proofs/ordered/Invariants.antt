-- What was seen so far is in order, and the marks are those of the last path.
use Rattle.listing_check.specs.Meaning.{rows_left}
use Rattle.listing_check.proofs.Order.{Kept}
use Rattle.listing_check.proofs.ordered.Given as goal

abbrev pub invariant-loop-entry : goal.invariant-loop-entry
invariant-loop-entry l = Kept l.l l.before l.mark (rows_left l.entry-iterator)
