-- The sum so far and the sum of the rest are the whole sum.
use Rattle.std.proofs.Common.{◌≡◌, ◌+◌, ◌*◌, ◌≤◌}
use Rattle.laws.specs.ListingSteps.{lengths_at}
use Rattle.listing_rules.proofs.lengths.Given as goal

abbrev pub invariant-loop-i : goal.invariant-loop-i
invariant-loop-i l = (l.sum ≤ l.i * 8589934592) × (l.sum + lengths_at l.l l.i ≡ lengths_at l.l 0)
