-- The library's number of four bytes is the definition's.
use Rattle.std.proofs.Common.{◌∙◌, arith}
use Rattle.laws.specs.ListingSteps.{number_at}
use Rattle.listing.proofs.number_at.Goals as goal

pub returns-clause-is : goal.returns-clause-is
returns-clause-is c = c.from_le_bytes.ensures ∙ omega (arith, number_at c.args.l.now c.args.k)
