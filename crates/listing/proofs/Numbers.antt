-- A number is in the first four of the bytes that it begins; the library's numbers of bytes are those of the
-- definition.
use Rattle.std.proofs.Common.{◌≡◌, ℕ, suc, zero, ◌+◌, ◌*◌, List, [], ◌∷◌, take, drop, get_or, ◌∙◌, ap, refl, arith}
use Rattle.std.proofs.Common.{get_or-take, get_or-drop}
use Rattle.std.specs.Int.{w32, w64, from_le_bytes, from_be_bytes}
use Rattle.definition.specs.Listing.{number32}
use Rattle.laws.specs.ListingSteps.{number_at}
use Rattle.listing.specs.Meaning.{high_first}

pub number_part : (s : List ℕ) (n : ℕ) → n ≡ 4 → number32 (take n s) ≡ number32 s
unfolding number32
number_part s n h =
    rw (
      get_or-take n s 0 0 (omega (arith, h)),
      get_or-take n s 1 0 (omega (arith, h)),
      get_or-take n s 2 0 (omega (arith, h)),
      get_or-take n s 3 0 (omega (arith, h)),
    )

pub four_bytes : (s : List ℕ) → from_le_bytes w32 s ≡ number32 s
unfolding number32
four_bytes s = omega arith

pub eight_low : (s : List ℕ) (k : ℕ)
    → from_le_bytes w64 (
    get_or s k 0 ∷ get_or s (k + 1) 0 ∷ get_or s (k + 2) 0 ∷ get_or s (k + 3) 0
    ∷ get_or s (k + 4) 0 ∷ get_or s (k + 5) 0 ∷ get_or s (k + 6) 0 ∷ get_or s (k + 7) 0 ∷ []
    ) ≡ number32 (drop k s) + 4294967296 * number32 (drop (k + 4) s)
eight_low s k = omega (arith, number_at s k, number_at s (k + 4), at 1, at 2, at 3)
  where
    at : (i : ℕ) → get_or s (k + 4 + i) 0 ≡ get_or s (k + (4 + i)) 0
    at i = ap (λ n. get_or s n 0) (omega arith)

abbrev tails : ℕ → List ℕ → List ℕ
tails zero t = t
tails (suc n) t = tails n (drop 1 t)

nth : (n : ℕ) (t : List ℕ) → get_or (tails n t) 0 0 ≡ get_or t n 0
nth zero t = refl
nth (suc n) [] = nth n []
nth (suc n) (x ∷ t) = nth n t

pub eight_high : (s : List ℕ) (k : ℕ) → from_be_bytes w64 (
    get_or s k 0 ∷ get_or s (k + 1) 0 ∷ get_or s (k + 2) 0 ∷ get_or s (k + 3) 0
    ∷ get_or s (k + 4) 0 ∷ get_or s (k + 5) 0 ∷ get_or s (k + 6) 0 ∷ get_or s (k + 7) 0 ∷ []
    ) ≡ high_first 8 0 (drop k s)
eight_high s k = omega (arith, start, at 0, at 1, at 2, at 3, at 4, at 5, at 6, at 7)
  where
    start : get_or s (k + 0) 0 ≡ get_or s k 0
    start = ap (λ n. get_or s n 0) (omega arith)

    at : (i : ℕ) → get_or (tails i (drop k s)) 0 0 ≡ get_or s (k + i) 0
    at i = nth i (drop k s) ∙ get_or-drop k s i 0
