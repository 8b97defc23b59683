-- The fours so far are shared.
use Prim.Native.Nat.{◌*◌}
use Rattle.laws.specs.ListingOrder.{Shared}
use Rattle.listing.proofs.shared.Given as goal

abbrev pub invariant-loop-k : goal.invariant-loop-k
invariant-loop-k l = Shared l.p l.q (4 * l.k)
