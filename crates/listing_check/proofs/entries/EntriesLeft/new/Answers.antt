-- The sizes fit, so the first entry begins behind the tables.
use Rattle.std.proofs.Common.{sym}
use Rattle.definition.specs.Listing.{entry_count}
use Rattle.laws.specs.ListingSteps.{standing_start, rows_stand}
use Rattle.listing_check.proofs.entries.EntriesLeft.new.Goals as goal

pub invariant_of-result : goal.invariant_of-result
unfolding entry_count
invariant_of-result c = record {
  stands =
      standing_start c.args.listing.now _ c.requires c.read_number-count.ensures.is;
}

pub returns : goal.returns
unfolding entry_count
returns c = sym (rows_stand (standing_start c.args.listing.now _ c.requires c.read_number-count.ensures.is))
