-- The places are those of the definition's search, and they tell what it finds.
use Rattle.definition.specs.Listing.{entry_count}
use Rattle.listing.proofs.Seek.{searched}
use Rattle.listing.proofs.search.Goals as goal

pub search_tables-requires : goal.search_tables-requires
search_tables-requires c = unfold entry_count in c.number-n.ensures.is

pub search_clamped-requires : goal.search_clamped-requires
search_clamped-requires c = unfold entry_count in (c.number-n.ensures.is, c.number-n.ensures.small)

pub returns-in-Ok : goal.returns-in-Ok
returns-in-Ok c = searched _ _ _ (rw c.in-Ok.is at c.search_tables.ensures)

pub returns-in-Err : goal.returns-in-Err
returns-in-Err c = searched _ _ _ c.search_clamped.ensures
