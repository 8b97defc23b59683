-- The sizes, one after another, are the definition's.
use Rattle.std.proofs.Common.{◌≡◌, ℕ, ◌+◌, ◌*◌, ◌&&◌, ◌==◌, nat_le, List, length, drop, take, refl, ◌∙◌, ap, arith}
use Rattle.std.proofs.lemmas.Bool.Decides.{nat_tests}
use Rattle.definition.specs.Listing.{number32, entry_count, text_length, sizes_fit}
use Rattle.laws.specs.ListingSteps.{lengths_at, sizes_is}
use Rattle.listing.proofs.Numbers.{number_part}
use Rattle.listing_rules.proofs.sizes.Goals as goal

fits : (l p : List ℕ) (n t : ℕ) → n ≡ number32 l → p ≡ take 4 (drop 4 l) → t ≡ number32 p
    → sizes_fit l ≡ (nat_le (length l) 65536 && nat_le 1 n && nat_le n 1024 && length l ==
    8 + 8 * n + t && lengths_at l 0 == t)
unfolding entry_count text_length
fits l p n t e f g =
    let h : t ≡ number32 (drop 4 l) = g ∙ (ap number32 f ∙ number_part (drop 4 l) 4 refl) in
    rw (e, h) (sizes_is l refl refl refl refl refl)

pub returns-else-l-n : goal.returns-else-l-n
returns-else-l-n c =
    let e = fits _ _ _ _ c.read_number-n.ensures.is c.part.ensures c.read_number-t.ensures.is in
    grind (arith, nat_tests)

pub lengths-requires-clause-count : goal.lengths-requires-clause-count
unfolding entry_count
lengths-requires-clause-count c = c.read_number-n.ensures.is

pub returns-then-l-n : goal.returns-then-l-n
returns-then-l-n c =
    let e = fits _ _ _ _ c.read_number-n.ensures.is c.part.ensures c.read_number-t.ensures.is in
    grind (arith, nat_tests)
