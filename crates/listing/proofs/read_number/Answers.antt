-- What is missing counts as zeros, in the library's number too.
use Rattle.std.proofs.Common.{◌∙◌, arith}
use Rattle.definition.specs.Listing.{number32}
use Rattle.listing.proofs.read_number.Goals as goal

pub returns-clause-is : goal.returns-clause-is
unfolding number32
returns-clause-is c = c.from_le_bytes.ensures ∙ omega arith
