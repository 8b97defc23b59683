-- The order of keys by their ranks, and what a key matches.
use mathlib.Core.Path.{◌≡◌, refl, sym, ◌∙◌, ap}
use mathlib.Core.Bool.{Bool, true, false, not, ◌&&◌, ◌||◌}
use mathlib.Core.List.{List, [], ◌∷◌}
use mathlib.Core.Option.{none, some}
use Prim.Native.Nat.compare
use Prim.Native.Nat as native
use Prim.Native.Nat.{ℕ, zero, suc, ◌+◌, ◌-◌, ◌<◌, ◌≤◌, compare}
use package.native.Mathlib.Omega.{arith}
use lib.ListN.{length, drop, take, length-drop}
use lib.Seq.{take_all, take-append_seam}
use lib.Dec.{eqb, leb, ltb, is_le, compare_is_eq}
use borrow.Author.Tests.{eqb-true, eqb-false, leb-true, leb-false, le-leb, lt-leb, lt-ltb, le-ltb}
use Rattle.std.specs.Prelude.{if◌then◌else◌}
use Rattle.definition.specs.Text.{text, star, equal, starts_with, ends_with, contains, before, after}
use Rattle.laws.specs.TextLaws.{and_true, starts_with_length, before_after}
use Rattle.laws.specs.PathSteps.{not_contains}
use Rattle.laws.specs.TextSteps.{before_inside}
use Rattle.definition.specs.Exports.{base_length, greater_first, PATTERN_KEY_COMPARE, is_subpath_key, star_match, pattern_match}
use Rattle.targets.specs.declared.Rank.{Rank}
use Rattle.std.specs.declared.cmp.Ordering.{Ordering}
use Rattle.std.specs.declared.cmp.Ordering.TheVariants.{Less, Equal, Greater}
use Rattle.std.specs.Ordering.{nat_cmp, ordering_reverse}
use Rattle.std.proofs.lemmas.Cmp.{ranked}
use Rattle.targets.specs.Keys.{rank_of, order_of}

-- a byte occurs where the text before it is not the whole text
module _ (c : ℕ) (s : List ℕ) where
  pub has : (r : ℕ) → r ≡ 0 + length (before c (drop 0 s)) → r < length s → contains c s ≡ true
  has r e h = go (contains c s) (not_contains c s)
    where
      go : (t : Bool) → not t ≡ eqb (length (before c s)) (length s) → t ≡ true
      go true f = refl
      go false f = absurd (let z = eqb-true (length (before c s)) (length s) (sym f) in omega arith)

  pub has_not : (r : ℕ) → r ≡ 0 + length (before c (drop 0 s)) → length s ≤ r → length (before c s) ≤ length s
      → contains c s ≡ false
  has_not r e h b = go (contains c s) (not_contains c s)
    where
      go : (t : Bool) → not t ≡ eqb (length (before c s)) (length s) → t ≡ false
      go true f = absurd (eqb-false (length (before c s)) (length s) (sym f) (omega arith))
      go false f = refl

-- the rank of a key
module _ (k : List ℕ) where
  pub rank_starred : (r : ℕ) → r ≡ 0 + length (before star (drop 0 k)) → r < length k
      → record { base = r + 1; starred = ltb r (length k); len = length k } ≡ rank_of k
  unfolding base_length
  rank_starred r e l =
      let n : r + 1 ≡ suc (length (before star k)) = omega arith in
      rw (has star k r e l, lt-ltb r (length k) l, n)

  pub rank_plain : (r : ℕ) → r ≡ 0 + length (before star (drop 0 k)) → length k ≤ r
      → record { base = length k; starred = ltb r (length k); len = length k } ≡ rank_of k
  unfolding base_length
  rank_plain r e l = rw (has_not star k r e l (before_inside star k), le-ltb r (length k) l)

-- the native comparison from facts
module _ (m n : ℕ) where
  compare_less : m < n → compare m n ≡ native.Ordering.lt
  compare_less h = go (compare m n) refl
    where
      go : (o : native.Ordering) → compare m n ≡ o → o ≡ native.Ordering.lt
      go native.Ordering.lt e = refl
      go native.Ordering.eq e = absurd (omega (arith, eqb-true m n (ap compare_is_eq e)))
      go native.Ordering.gt e = absurd (omega (arith, leb-false m n (ap is_le e)))

  compare_greater : n < m → compare m n ≡ native.Ordering.gt
  compare_greater h = go (compare m n) refl
    where
      go : (o : native.Ordering) → compare m n ≡ o → o ≡ native.Ordering.gt
      go native.Ordering.lt e = absurd (omega (arith, leb-true m n (ap is_le e)))
      go native.Ordering.eq e = absurd (omega (arith, eqb-true m n (ap compare_is_eq e)))
      go native.Ordering.gt e = refl

  compare_same : m ≡ n → compare m n ≡ native.Ordering.eq
  compare_same h = go (compare m n) refl
    where
      go : (o : native.Ordering) → compare m n ≡ o → o ≡ native.Ordering.eq
      go native.Ordering.lt e = absurd (omega (arith, eqb-false m n (ap compare_is_eq e)))
      go native.Ordering.eq e = refl
      go native.Ordering.gt e = absurd (omega (arith, leb-false m n (ap is_le e)))

-- the empty key follows the rule of the others
by_rank : (k l : List ℕ)
    → PATTERN_KEY_COMPARE k l
    ≡ greater_first (compare (base_length k) (base_length l))
    (if not (contains star k) then native.Ordering.gt else if not (contains star l) then native.Ordering.lt
    else greater_first (compare (length k) (length l)) native.Ordering.eq)
unfolding PATTERN_KEY_COMPARE greater_first contains base_length
by_rank [] l = go (base_length l)
  where
    go : (n : ℕ) → native.Ordering.gt ≡ greater_first (compare 0 n) native.Ordering.gt
    go zero = refl
    go (suc n) = rw (compare.zero-suc n)
by_rank (c ∷ s) l = refl

-- the native comparison is std's of the two numbers in the other order
turned : (m n : ℕ) (o : Ordering) → o ≡ nat_cmp n m → compare m n ≡ order_of (ordering_reverse o)
turned m n Less e = compare_greater m n (ranked n m Less e)
turned m n Equal e = compare_same m n (sym (ranked n m Equal e))
turned m n Greater e = compare_less m n (ranked n m Greater e)

decided : (o : Ordering) → (o ≡ Equal → ⊥) → (r : native.Ordering)
    → greater_first (order_of (ordering_reverse o)) r ≡ order_of o
unfolding greater_first
decided Less n r = refl
decided Equal n r = absurd (n refl)
decided Greater n r = refl

last_decides : (o : Ordering) → greater_first (order_of (ordering_reverse o)) native.Ordering.eq ≡ order_of o
unfolding greater_first
last_decides Less = refl
last_decides Equal = refl
last_decides Greater = refl

module _ (a b : Rank) (k l : List ℕ) (e : a ≡ rank_of k) (f : b ≡ rank_of l) where
  star_is : (contains star k ≡ a.starred) × (contains star l ≡ b.starred)
  star_is = (sym (ap (λ r. r.starred) e), sym (ap (λ r. r.starred) f))

  base_turned : (o : Ordering) → o ≡ nat_cmp b.base a.base
      → compare (base_length k) (base_length l) ≡ order_of (ordering_reverse o)
  base_turned o h = turned (base_length k) (base_length l) o (h ∙ rw (e, f))

  pub by_base : (o : Ordering) → o ≡ nat_cmp b.base a.base → (o ≡ Equal → ⊥) → order_of o ≡ PATTERN_KEY_COMPARE k l
  by_base o h n = sym (by_rank k l ∙ rw (base_turned o h) (decided o n _))

  module _ (h : Equal ≡ nat_cmp b.base a.base) where
    pub plain_first : a.starred ≡ false → native.Ordering.gt ≡ PATTERN_KEY_COMPARE k l
    unfolding greater_first
    plain_first n = sym (by_rank k l ∙ rw (base_turned Equal h, star_is.0 ∙ n))

    module _ (n : a.starred ≡ true) where
      pub plain_second : b.starred ≡ false → native.Ordering.lt ≡ PATTERN_KEY_COMPARE k l
      unfolding greater_first
      plain_second o = sym (by_rank k l ∙ rw (base_turned Equal h, star_is.0 ∙ n, star_is.1 ∙ o))

      pub by_size : b.starred ≡ true → (o : Ordering) → o ≡ nat_cmp b.len a.len → order_of o ≡ PATTERN_KEY_COMPARE k l
      unfolding greater_first
      by_size s o i =
          sym (by_rank k l
          ∙ rw (base_turned Equal h, star_is.0 ∙ n, star_is.1 ∙ s, turned (length k) (length l) o (i ∙ rw (e, f)))
          (last_decides o))

-- what a key matches
module _ (mk key trailer : List ℕ) where
  module _ (n : length trailer ≡ 0 → ⊥) where
    not_empty : equal trailer [] ≡ false
    not_empty = go trailer n
      where
        go : (t : List ℕ) → (length t ≡ 0 → ⊥) → equal t [] ≡ false
        go [] h = absurd (h refl)
        go (b ∷ t) h = unfold equal in refl

    pub fits_short : length mk < length key
        → false ≡ (equal trailer [] || (leb (length key) (length mk) && ends_with trailer mk))
    fits_short h = rw (not_empty, lt-leb (length key) (length mk) h)

    pub fits_end : length key ≤ length mk
        → ends_with trailer mk ≡ (equal trailer [] || (leb (length key) (length mk) && ends_with trailer mk))
    fits_end h = rw (not_empty, le-leb (length key) (length mk) h)

  module _ (base : List ℕ) where
    -- there is room for both parts
    pub room : length key ≡ suc (length base + length trailer) → starts_with base mk ≡ true → (b : Bool)
        → b ≡ (equal trailer [] || (leb (length key) (length mk) && ends_with trailer mk)) → b ≡ true
        → length trailer ≤ length mk - length base
    room s h b f e = go trailer s (sym f ∙ e)
      where
        go : (t : List ℕ) → length key ≡ suc (length base + length t)
            → (equal t [] || (leb (length key) (length mk) && ends_with t mk)) ≡ true
            → length t ≤ length mk - length base
        go [] s e = omega (arith, starts_with_length base mk h)
        go (c ∷ t) s e = let f : leb (length key) (length mk) && ends_with (c ∷ t) mk ≡ true = unfold equal in e in
            omega (arith, leb-true (length key) (length mk) (and_true _ _ f).0)

module _ (mk key : List ℕ) (h : is_subpath_key key ≡ true) where
  pub match_star : contains star key ≡ true
      → star_match mk key (before star key) (after star key) ≡ pattern_match mk key
  unfolding pattern_match
  match_star g = rw (h, g)

  pub match_folder : contains star key ≡ false
      → (if ends_with (text "/") key && starts_with key mk then some (drop (length key) mk) else none)
      ≡ pattern_match mk key
  unfolding pattern_match
  match_folder g = rw (h, g)

-- the slices before and behind the first star
module _ (key : List ℕ) (r : ℕ) (e : r ≡ 0 + length (before star (drop 0 key))) (h : contains star key ≡ true) where
  pub base_part : take r key ≡ before star key
  base_part = let n : r ≡ length (before star key) = omega arith in
      rw n (ap (take (length (before star key))) (before_after star key h)
      ∙ take-append_seam (before star key) (star ∷ after star key))

  pub trailer_part : take (length key - (r + 1)) (drop (r + 1) key) ≡ after star key
  unfolding after
  trailer_part = let n : r + 1 ≡ suc (length (before star key)) = omega arith in
      take_all (length key - (r + 1)) (drop (r + 1) key) (omega (arith, length-drop (r + 1) key)) ∙ rw n
