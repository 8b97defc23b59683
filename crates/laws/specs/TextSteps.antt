-- The tests of `Text` at a place of a slice: what a loop over the bytes uses.
use Rattle.std.specs.Prelude.{◌≡◌, Bool, true, ◌&&◌, ◌||◌, leb, drop, take, set, replicate, if◌then◌else◌}
use Rattle.std.proofs.Math.Path.{refl, sym}
use Rattle.std.proofs.Common.{◌∙◌, ap, add-one, length-drop, take-append-drop, take-suc}
use Prim.Native.Nat.{ℕ, zero, suc, ◌+◌, ◌-◌, ◌≤◌, ◌<◌, min}
use Rattle.std.proofs.Math.Bool.{false, and-false, or-true}
use mathlib.Core.List.{List, [], ◌∷◌, append-nil}
use native.Mathlib.Omega.{arith}
use borrow.Author.Tests.{leb-true, leb-false, eq-eqb, ne_eqb, lt-ltb, le-ltb, le-leb, lt-leb}
use Rattle.std.proofs.Math.Dec.{eqb}
use Rattle.std.proofs.Math.Nat.{add-zero}
use Rattle.std.proofs.Math.ListN.{length, get_or, drop_of_length-le, length-set}
use Rattle.std.proofs.lemmas.List.{length-map}
use Rattle.std.proofs.Math.Seq.{drop-cons, take_all, take-nil, take-suc-set, drop-set-lt, append_snoc}
use Rattle.definition.specs.Text.{equal, equal_ignoring_case, lower_case, starts_with, smaller, count, contains, contains_text, before, before_last, within, Due, due, bad, due_after, is_utf8_from, is_utf8, overwrite, zero_from}

pub equal_lengths : (a b : List ℕ) → (length a ≡ length b → ⊥) → equal a b ≡ false
unfolding equal
equal_lengths [] [] h = absurd (h refl)
equal_lengths [] (y ∷ b) h = refl
equal_lengths (x ∷ a) [] h = refl
equal_lengths (x ∷ a) (y ∷ b) h = rw (equal_lengths a b (λ e. h (ap suc e))) (and-false (eqb x y))

module _ (a b : List ℕ) (i : ℕ) where
  pub equal_end : length a ≤ i → length b ≤ i → equal (drop i a) (drop i b) ≡ true
  unfolding equal
  equal_end h k = rw (drop_of_length-le a h, drop_of_length-le b k)

  pub smaller_end : length b ≤ i → smaller (drop i a) (drop i b) ≡ false
  unfolding smaller
  smaller_end k = rw (drop_of_length-le b k) (no (drop i a))
    where
      no : (s : List ℕ) → smaller s [] ≡ false
      no [] = refl
      no (x ∷ s) = refl

  pub smaller_start : length a ≤ i → i < length b → smaller (drop i a) (drop i b) ≡ true
  unfolding smaller
  smaller_start h k = rw (drop_of_length-le a h, drop-cons b i 0 k)

  module _ (h : i < length a) (k : i < length b) where
    pub equal_here : get_or a i 0 ≡ get_or b i 0 → equal (drop i a) (drop i b) ≡ equal (drop (i + 1) a) (drop (i + 1) b)
    unfolding equal
    equal_here e = rw (add-one i, drop-cons a i 0 h, drop-cons b i 0 k) (simp (eq-eqb _ _ e))

    pub unequal_here : (get_or a i 0 ≡ get_or b i 0 → ⊥) → equal (drop i a) (drop i b) ≡ false
    unfolding equal
    unequal_here e = rw (drop-cons a i 0 h, drop-cons b i 0 k) (simp (ne_eqb _ _ e))

    pub smaller_here : get_or a i 0 < get_or b i 0 → smaller (drop i a) (drop i b) ≡ true
    unfolding smaller
    smaller_here e = rw (drop-cons a i 0 h, drop-cons b i 0 k) (simp (lt-ltb _ _ e))

    pub larger_here : get_or b i 0 < get_or a i 0 → smaller (drop i a) (drop i b) ≡ false
    unfolding smaller
    larger_here e =
        let p : get_or b i 0 ≤ get_or a i 0 = omega arith in
        let q : get_or a i 0 ≡ get_or b i 0 → ⊥ = λ z. omega arith in
        rw (drop-cons a i 0 h, drop-cons b i 0 k) (simp (le-ltb _ _ p, ne_eqb _ _ q))

    pub smaller_next : get_or a i 0 ≡ get_or b i 0 → smaller (drop i a) (drop i b) ≡ smaller (drop (i + 1) a) (drop (i + 1) b)
    unfolding smaller
    smaller_next e =
        let p : get_or b i 0 ≤ get_or a i 0 = omega arith in
        rw (add-one i, drop-cons a i 0 h, drop-cons b i 0 k) (simp (le-ltb _ _ p, eq-eqb _ _ e))

pub ignoring_lengths : (a b : List ℕ) → (length a ≡ length b → ⊥) → equal_ignoring_case a b ≡ false
unfolding equal_ignoring_case
ignoring_lengths a b h = equal_lengths _ _ (λ e. h (simp length-map at e))

module _ (a b : List ℕ) (i : ℕ) where
  pub ignoring_end : length a ≤ i → length b ≤ i → equal_ignoring_case (drop i a) (drop i b) ≡ true
  unfolding equal_ignoring_case equal
  ignoring_end h k = rw (drop_of_length-le a h, drop_of_length-le b k)

  module _ (h : i < length a) (k : i < length b) where
    pub ignoring_here : lower_case (get_or a i 0) ≡ lower_case (get_or b i 0) → equal_ignoring_case (drop i a) (drop i b) ≡ equal_ignoring_case (drop (i + 1) a) (drop (i + 1) b)
    unfolding equal_ignoring_case equal
    ignoring_here e = rw (add-one i, drop-cons a i 0 h, drop-cons b i 0 k) (simp (eq-eqb _ _ e))

    pub ignoring_not : (lower_case (get_or a i 0) ≡ lower_case (get_or b i 0) → ⊥) → equal_ignoring_case (drop i a) (drop i b) ≡ false
    unfolding equal_ignoring_case equal
    ignoring_not e = rw (drop-cons a i 0 h, drop-cons b i 0 k) (simp (ne_eqb _ _ e))

module _ (c : ℕ) (s : List ℕ) (i : ℕ) where
  pub count_end : length s ≤ i → count c (drop i s) ≡ 0
  unfolding count
  count_end h = rw (drop_of_length-le s h)

  pub before_end : length s ≤ i → before c (drop i s) ≡ []
  unfolding before
  before_end h = rw (drop_of_length-le s h)

  pub contains_end : length s ≤ i → contains c (drop i s) ≡ false
  unfolding contains
  contains_end h = rw (drop_of_length-le s h)

  module _ (h : i < length s) where
    pub count_here : get_or s i 0 ≡ c → count c (drop i s) ≡ 1 + count c (drop (i + 1) s)
    unfolding count
    count_here e = rw (add-one i, drop-cons s i 0 h) (simp (eq-eqb _ _ e))

    pub count_not : (get_or s i 0 ≡ c → ⊥) → count c (drop i s) ≡ count c (drop (i + 1) s)
    unfolding count
    count_not e = rw (add-one i, drop-cons s i 0 h) (simp (ne_eqb _ _ e) (omega arith))

    pub before_here : get_or s i 0 ≡ c → before c (drop i s) ≡ []
    unfolding before
    before_here e = rw (drop-cons s i 0 h) (simp (eq-eqb _ _ e))

    pub before_not : (get_or s i 0 ≡ c → ⊥) → length (before c (drop i s)) ≡ suc (length (before c (drop (i + 1) s)))
    unfolding before
    before_not e = rw (add-one i, drop-cons s i 0 h) (simp (ne_eqb _ _ e))

    pub contains_here : get_or s i 0 ≡ c → contains c (drop i s) ≡ true
    unfolding contains
    contains_here e = rw (drop-cons s i 0 h) (simp (eq-eqb _ _ e))

    pub contains_not : (get_or s i 0 ≡ c → ⊥) → contains c (drop i s) ≡ contains c (drop (i + 1) s)
    unfolding contains
    contains_not e = rw (add-one i, drop-cons s i 0 h) (simp (ne_eqb _ _ e))

-- UTF-8: one step of the state
pub utf8_end : (n lo hi : ℕ) → is_utf8_from [] (due n lo hi) ≡ eqb n 0
unfolding is_utf8_from
utf8_end zero lo hi = refl
utf8_end (suc n) lo hi = sym (ne_eqb (suc n) 0 (λ e. omega arith))

pub utf8_bad : (s : List ℕ) → is_utf8_from s bad ≡ false
unfolding is_utf8_from
utf8_bad [] = refl
utf8_bad (b ∷ s) = refl

module _ (b : ℕ) (s : List ℕ) (n lo hi : ℕ) where
  pub utf8_first : n ≡ 0 → is_utf8_from (b ∷ s) (due n lo hi) ≡ is_utf8_from s (due_after b)
  unfolding is_utf8_from
  utf8_first e = rw e

  module _ (p : n ≡ 0 → ⊥) where
    more : is_utf8_from (b ∷ s) (due n lo hi) ≡ within lo hi b && is_utf8_from s (due (n - 1) 128 191)
    unfolding is_utf8_from
    more = go n p
      where
        go : (n : ℕ) → (n ≡ 0 → ⊥) → is_utf8_from (b ∷ s) (due n lo hi) ≡ within lo hi b && is_utf8_from s (due (n - 1) 128 191)
        go zero p = absurd (p refl)
        go (suc n) p = let e : suc n - 1 ≡ n = omega arith in rw e

    pub utf8_low : b < lo → is_utf8_from (b ∷ s) (due n lo hi) ≡ is_utf8_from s bad
    unfolding within
    utf8_low e = more ∙ rw (utf8_bad s) (simp (lt-leb _ _ e))

    pub utf8_high : hi < b → is_utf8_from (b ∷ s) (due n lo hi) ≡ is_utf8_from s bad
    unfolding within
    utf8_high e = more ∙ rw (utf8_bad s) (simp (lt-leb _ _ e, and-false))

    pub utf8_next : lo ≤ b → b ≤ hi → is_utf8_from (b ∷ s) (due n lo hi) ≡ is_utf8_from s (due (n - 1) 128 191)
    unfolding within
    utf8_next e f = more ∙ simp (le-leb _ _ e, le-leb _ _ f)

pub within_yes : (a z b : ℕ) → a ≤ b → b ≤ z → within a z b ≡ true
unfolding within
within_yes a z b p q = simp (le-leb _ _ p, le-leb _ _ q)

pub within_low : (a z b : ℕ) → b < a → within a z b ≡ false
unfolding within
within_low a z b p = simp (lt-leb _ _ p)

pub within_high : (a z b : ℕ) → z < b → within a z b ≡ false
unfolding within
within_high a z b p = simp (lt-leb _ _ p, and-false)

-- the last c of a text
pub last_at : (c : ℕ) (s : List ℕ) (k : ℕ) → k < length s → get_or s k 0 ≡ c → contains c (drop (suc k) s) ≡ false → (contains c s ≡ true) × (before_last c s ≡ take k s)
unfolding contains before_last
last_at c [] k h e n = let z : ⊥ = omega arith in absurd z
last_at c (b ∷ s) zero h e n = (simp (eq-eqb _ _ e), simp (n, eq-eqb _ _ e))
last_at c (b ∷ s) (suc k) h e n =
    let r : (contains c s ≡ true) × (before_last c s ≡ take k s) = last_at c s k (omega arith) e n in
    (simp (r.0, or-true), simp (r.0, r.1))

pub last_none : (c : ℕ) (s : List ℕ) → contains c s ≡ false → before_last c s ≡ s
unfolding contains before_last
last_none c [] n = refl
last_none c (b ∷ s) n = go (eqb b c) (contains c s) refl n
  where
    go : (t u : Bool) → contains c s ≡ u → t || u ≡ false → (if u then b ∷ before_last c s else if t then [] else b ∷ s) ≡ b ∷ s
    go true u e h = let z : ◌≡◌ {A = Bool} true false = h in cc
    go false true e h = cc
    go false false e h = refl

-- a first c is there, or it is not
pub before_inside : (c : ℕ) (s : List ℕ) → length (before c s) ≤ length s
unfolding before
before_inside c [] = omega arith
before_inside c (b ∷ s) = go (eqb b c) (before_inside c s)
  where
    go : (t : Bool) → length (before c s) ≤ length s → length (if t then [] else b ∷ before c s) ≤ suc (length s)
    go true h = omega arith
    go false h = omega arith

pub utf8_step : (s : List ℕ) (i : ℕ) (d e f : Due) → i < length s → ((t : List ℕ) → is_utf8_from (get_or s i 0 ∷ t) d ≡ is_utf8_from t e) → e ≡ f → is_utf8_from (drop i s) d ≡ is_utf8_from (drop (i + 1) s) f
utf8_step s i d e f h step same = rw (add-one i, drop-cons s i 0 h, ← same) (step (drop (suc i) s))

pub first_inside : (c : ℕ) (s : List ℕ) (at e : ℕ) → e ≡ at + length (before c (drop at s)) → at ≤ length s → e ≤ length s
first_inside c s at e h k = omega (arith, before_inside c (drop at s), length-drop at s)

pub take_more : (a b : List ℕ) (i : ℕ) → i < length a → i < length b → take i a ≡ take i b → get_or a i 0 ≡ get_or b i 0 → take (i + 1) a ≡ take (i + 1) b
take_more a b i h k e f = rw (add-one i, take-suc a i 0 h, take-suc b i 0 k, e, f)

-- a text that starts with another is at least as long, and begins with its bytes
pub starts_with_short : (p s : List ℕ) → length s < length p → starts_with p s ≡ false
unfolding starts_with
starts_with_short [] s h = let z : ⊥ = omega arith in absurd z
starts_with_short (a ∷ p) [] h = refl
starts_with_short (a ∷ p) (b ∷ s) h = rw (starts_with_short p s (omega arith)) (and-false (eqb a b))

pub starts_with_equal : (p s : List ℕ) → length p ≤ length s → starts_with p s ≡ equal p (take (length p) s)
unfolding starts_with equal
starts_with_equal [] s h = refl
starts_with_equal (a ∷ p) [] h = let z : ⊥ = omega arith in absurd z
starts_with_equal (a ∷ p) (b ∷ s) h = rw (starts_with_equal p s (omega arith))

-- a list from a place on: its element there, and the list from the next place on
pub drop_next : {A : Type 0} (l : List A) (i : ℕ) (z : A) → i < length l → drop i l ≡ get_or l i z ∷ drop (i + 1) l
drop_next l i z h = rw (add-one i) (drop-cons l i z h)

-- as many as there are, where more are asked for
pub take_clip : {A : Type 0} (s : List A) (at n m : ℕ) → m ≡ min n (length s - at) → take m (drop at s) ≡ take n (drop at s)
take_clip s at n m e = go (leb n (length s - at)) refl
  where
    go : (t : Bool) → leb n (length s - at) ≡ t → take m (drop at s) ≡ take n (drop at s)
    go true h = let k : n ≤ length s - at = leb-true _ _ h in let f : m ≡ n = omega arith in rw f
    go false h =
        let k : length s - at < n = leb-false _ _ h in
        rw (take_all m (drop at s) (omega (arith, length-drop at s)), take_all n (drop at s) (omega (arith, length-drop at s)))

-- the part of a slice from a place to its end
pub part_rest : {A : Type 0} (s : List A) (at : ℕ) → take (length s - at) (drop at s) ≡ drop at s
part_rest s at = take_all (length s - at) (drop at s) (omega (arith, length-drop at s))

module _ (t s : List ℕ) (i : ℕ) where
  pub contains_text_here : i < length s → starts_with t (drop i s) ≡ true → contains_text t (drop i s) ≡ true
  unfolding contains_text
  contains_text_here h e = rw (drop-cons s i 0 h) (simp (rw (drop-cons s i 0 h) at e))

  pub contains_text_not : i < length s → starts_with t (drop i s) ≡ false → contains_text t (drop i s) ≡ contains_text t (drop (i + 1) s)
  unfolding contains_text
  contains_text_not h e = rw (add-one i, drop-cons s i 0 h) (simp (rw (drop-cons s i 0 h) at e))

  pub contains_text_end : length s ≤ i → contains_text t (drop i s) ≡ eqb (length t) 0
  unfolding contains_text starts_with
  contains_text_end h = rw (drop_of_length-le s h) (empty t)
    where
      empty : (t : List ℕ) → starts_with t [] ≡ eqb (length t) 0
      empty [] = refl
      empty (a ∷ t) = sym (ne_eqb (suc (length t)) 0 (λ e. omega arith))

-- bytes below 128 are UTF-8
pub utf8_ascii : (s : List ℕ) → ((k : ℕ) → k < length s → get_or s k 0 < 128) → is_utf8 s ≡ true
unfolding is_utf8 is_utf8_from due_after
utf8_ascii [] h = refl
utf8_ascii (b ∷ s) h = rw (lt-ltb b 128 (h 0 (omega arith))) (utf8_ascii s (λ k l. h (suc k) (omega arith)))

-- one element written at a place, and the rest from the next place on
module _ {A : Type 0} where
  pub overwrite_here : (at : ℕ) (x : A) (t d : List A) → at < length d → overwrite at (x ∷ t) d ≡ overwrite (suc at) t (set d at x)
  unfolding overwrite
  overwrite_here at x t d h =
      let e : length d - at ≡ suc (length d - suc at) = omega arith in
      let f : at + suc (length t) ≡ suc at + length t = omega arith in
      let g : at < suc at + length t = omega arith in
      rw (e, f, take-suc-set d at x h, length-set d at x, drop-set-lt (suc at + length t) d at x g, append_snoc (take at d) x (take (length d - suc at) t))

  pub overwrite_nil : (at : ℕ) (d : List A) → overwrite at [] d ≡ d
  unfolding overwrite
  overwrite_nil at d = rw (take-nil (length d - at), append-nil (take at d), add-zero at) (take-append-drop at d)

  pub overwrite_past : (at : ℕ) (t d : List A) → length d ≤ at → overwrite at t d ≡ d
  unfolding overwrite
  overwrite_past at t d h =
      let e : length d - at ≡ 0 = omega arith in
      let f : length d ≤ at + length t = omega arith in
      rw (e, take_all at d h, drop_of_length-le d f) (simp append-nil)

  module _ (at : ℕ) (s d : List A) where
    pub overwrite_step : (i : ℕ) (z : A) → i < length s → at + i < length d → overwrite (at + i) (drop i s) d ≡ overwrite (at + (i + 1)) (drop (i + 1) s) (set d (at + i) (get_or s i z))
    overwrite_step i z h k =
        let e : at + suc i ≡ suc (at + i) = omega arith in
        rw (add-one i, e, drop-cons s i z h) (overwrite_here (at + i) (get_or s i z) (drop (suc i) s) d k)

    pub overwrite_end : (i : ℕ) → min (length s) (length d - at) ≤ i → overwrite (at + i) (drop i s) d ≡ d
    overwrite_end i h = go (leb (length s) i) refl
      where
        go : (t : Bool) → leb (length s) i ≡ t → overwrite (at + i) (drop i s) d ≡ d
        go true e = rw (drop_of_length-le s (leb-true _ _ e)) (overwrite_nil (at + i) d)
        go false e = overwrite_past (at + i) (drop i s) d (let k : i < length s = leb-false _ _ e in omega arith)

pub zero_from_here : (at : ℕ) (d : List ℕ) → at < length d → zero_from at d ≡ zero_from (suc at) (set d at 0)
unfolding zero_from
zero_from_here at d h =
    let e : length d - at ≡ suc (length d - suc at) = omega arith in
    rw (e, take-suc-set d at 0 h, length-set d at 0, append_snoc (take at d) 0 (replicate (length d - suc at) 0))

pub zero_from_past : (at : ℕ) (d : List ℕ) → length d ≤ at → zero_from at d ≡ d
unfolding zero_from
zero_from_past at d h =
    let e : length d - at ≡ 0 = omega arith in
    rw (e, take_all at d h) (append-nil d)
