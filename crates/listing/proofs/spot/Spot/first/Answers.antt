-- The first path begins behind the tables.
use Rattle.std.proofs.Common.{arith}
use Rattle.listing.proofs.Seek.{reached_first}
use Rattle.listing.proofs.spot.Spot.first.Goals as goal

pub invariant_of-result : goal.invariant_of-result
invariant_of-result c =
    record { reached = reached_first c.args.listing.now c.args.count c.requires (omega arith) (omega arith) }
