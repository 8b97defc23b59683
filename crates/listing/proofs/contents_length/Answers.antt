-- A directory's mark stands for no contents, any other number for itself.
use Rattle.std.proofs.Common.{arith}
use Rattle.std.proofs.lemmas.Bool.Decides.{nat_tests}
use Rattle.definition.specs.Listing.{contents_length}
use Rattle.listing.proofs.contents_length.Goals as goal

pub returns-then-c-eq-DIRECTORY-clause-is : goal.returns-then-c-eq-DIRECTORY-clause-is
unfolding contents_length
returns-then-c-eq-DIRECTORY-clause-is c = grind (arith, nat_tests)

pub returns-else-c-eq-DIRECTORY-clause-is : goal.returns-else-c-eq-DIRECTORY-clause-is
unfolding contents_length
returns-else-c-eq-DIRECTORY-clause-is c = grind (arith, nat_tests)
