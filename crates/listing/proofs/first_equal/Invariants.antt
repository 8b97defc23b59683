-- None of the entries so far has the path.
use Prim.Native.Nat.{◌-◌}
use Rattle.listing.specs.Meaning.{SameListing, NoneBefore}
use Rattle.listing.proofs.first_equal.Given as goal

abbrev pub invariant-loop-spot : goal.invariant-loop-spot
invariant-loop-spot l = SameListing l.first l.spot × NoneBefore l.first.listing.now l.path l.spot.index

abbrev pub decreases-loop-spot : goal.decreases-loop-spot
decreases-loop-spot l = l.n - l.spot.index
