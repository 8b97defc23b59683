-- The entries so far have other paths.
use Rattle.std.proofs.Common.{◌-◌, ◌≤◌}
use Rattle.listing.specs.Meaning.{SameListing, NoneBefore}
use Rattle.listing.proofs.pass_others.Given as goal

abbrev pub invariant-loop-spot : goal.invariant-loop-spot
invariant-loop-spot l =
    SameListing l.from l.spot × (l.spot.index ≤ l.to)
    × (NoneBefore l.from.listing.now l.path l.from.index → NoneBefore l.from.listing.now l.path l.spot.index)

abbrev pub decreases-loop-spot : goal.decreases-loop-spot
decreases-loop-spot l = l.to - l.spot.index
