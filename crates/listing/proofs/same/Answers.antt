use mathlib.Core.Path.{◌∙◌}
use Rattle.laws.specs.ListingOrder.{equal_shared}
use Rattle.listing.proofs.same.Goals as goal

pub returns : goal.returns
returns c = c.equal.ensures ∙ equal_shared _ _ _ c.shared-k.ensures
