-- The next entry stands within the listing, and those behind it are left.
use Rattle.std.proofs.Common.{length, ap, arith, rules}
use Rattle.laws.specs.ListingSteps.{rows_end}
use Rattle.listing_check.proofs.Turns.{stands_on, next_row}
use Rattle.listing_check.proofs.entries.EntriesLeftIterator.next.Goals as goal

pub returns-then-self-clause-steps : goal.returns-then-self-clause-steps
returns-then-self-clause-steps c =
    let s = c.args.self.now in
    let none = rows_end s.listing.now s.index s.at (omega (arith, s.stands.number)) in
    (none, none)

pub invariant_of-self : goal.invariant_of-self
invariant_of-self c =
    record {
      stands = stands_on c.args.self.now.stands c.if-self.false c.read_number.ensures.is c.read_number-c.ensures.is
          c.contents_length.ensures.is;
    }

pub returns-clause-steps : goal.returns-clause-steps
returns-clause-steps c =
    next_row c.args.self.now.stands c.if-self.false c.read_number.ensures.is c.read_number-c.ensures.is
    c.contents_length.ensures.is

pub returns-clause-goes : goal.returns-clause-goes
returns-clause-goes c =
    let shorter = ap length (returns-clause-steps c) in
    search (rules, shorter)
