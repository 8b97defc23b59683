-- The number that is read is the path's length.
use Rattle.std.proofs.Common.{ℕ, ◌+◌, ap}
use Rattle.laws.specs.ListingSteps.{path_length_at}
use Rattle.listing.proofs.spot.Spot.end.Goals as goal

pub returns-clause-is : goal.returns-clause-is
unfolding path_length_at
returns-clause-is c = ap (λ (n : ℕ). c.args.self.at + n) c.number_at.ensures.is
