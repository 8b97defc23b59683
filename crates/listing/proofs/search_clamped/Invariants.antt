use mathlib.Core.Path.{◌≡◌}
use Prim.Native.Nat.{◌-◌, ◌≤◌}
use lib.ListN.{length}
use Rattle.definition.specs.Listing.{place_in, place_at}
use Rattle.laws.specs.ListingSteps.{rows_at}
use Rattle.listing.proofs.search_clamped.Given as goal

abbrev pub invariant-loop-i : goal.invariant-loop-i
invariant-loop-i l = (l.at ≤ length l.l) × (place_in l.at (rows_at l.l l.i l.at) l.path ≡ place_at l.l l.path)

abbrev pub decreases-loop-i : goal.decreases-loop-i
decreases-loop-i l = l.n - l.i
