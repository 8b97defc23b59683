-- Every path so far is below, and so the entries from the place on decide.
use Rattle.std.proofs.Common.{◌-◌, ◌≤◌}
use Rattle.laws.specs.SearchLaws.{Stopping}
use Rattle.listing.specs.Meaning.{SameListing}
use Rattle.listing.proofs.all_below.Given as goal

abbrev pub invariant-loop-spot : goal.invariant-loop-spot
invariant-loop-spot l =
    SameListing l.first l.spot × (l.spot.index ≤ l.to) × Stopping l.first.listing.now l.path l.spot.index l.spot.at

abbrev pub decreases-loop-spot : goal.decreases-loop-spot
decreases-loop-spot l = l.to - l.spot.index
