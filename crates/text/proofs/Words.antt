-- What the library says of its methods on slices, in the definition's words.
use Rattle.std.specs.Prelude.{◌≡◌, ℕ, Bool, true, false, cond, Option, None, Some, ◌&&◌, ◌↔◌, List, [], ◌∷◌, map, length, take, drop, nat_eq, count_by, unwrap_or, fold, min, IsTrue, MatchOption, get_or}
use Rattle.std.specs.List.{list_any, starts_with as begins, ends_with as ends}
use Rattle.std.specs.Char.{to_ascii_lowercase}
use Rattle.std.specs.Ordering.{partial_lt, nat_cmp, is_lt}
use Rattle.std.specs.Cmp.Lexicographic.{pointwise, slice_partial_cmp}
use Rattle.std.proofs.Common.{◌≤◌, ◌<◌, leb, length-take, length-drop}
use borrow.Author.Tests.{leb-true, leb-false, eq-eqb, ne_eqb}
use Rattle.std.proofs.lemmas.List.{append_assoc, drop-drop, take_min, drop_min, get_or-drop, length-take-le, nil_from_length}
use borrow.Rule.Slice.PartMut.{put_mid}
use Rattle.std.proofs.lemmas.Cmp.{same_from_slice_cmp_tested}
use Rattle.std.proofs.Common.{refl, sym, ap, ◌∙◌, ◌+◌, ◌-◌, arith, zero, suc, zero-add}
use Rattle.std.proofs.Math.Bool.{or-true}
use Rattle.std.proofs.lemmas.Bool.Decides.{nat_tests}
use Rattle.definition.specs.Text.{equal, equal_ignoring_case, lower_case, within, smaller, starts_with, ends_with, contains, contains_text, before, before_last, overwrite}
use Rattle.laws.specs.TextLaws.{equal_true, equal_refl}
use Rattle.laws.specs.TextSteps.{equal_lengths, starts_with_short, starts_with_equal, last_at, last_none}

-- `==` of slices
pub equal_is : (a b : List ℕ) → pointwise nat_eq a b ≡ equal a b
unfolding equal
equal_is [] [] = refl
equal_is [] (y ∷ b) = refl
equal_is (x ∷ a) [] = refl
equal_is (x ∷ a) (y ∷ b) = rw (equal_is a b)

-- `contains`
pub contains_is : (c : ℕ) (s : List ℕ) → list_any (λ y. nat_eq y c) s ≡ contains c s
unfolding contains
contains_is c [] = refl
contains_is c (b ∷ s) = rw (contains_is c s)

-- `<` of slices
pub smaller_is : (a b : List ℕ) → partial_lt (slice_partial_cmp (λ x y. Some (nat_cmp x y))) a b ≡ smaller a b
unfolding smaller
smaller_is a b = same_from_slice_cmp_tested nat_cmp is_lt smaller refl (λ _ _. refl) (λ _ _. refl) (λ x y xs ys o h. grind (arith, nat_tests)) a b _ refl

-- `position`: the first byte that is c, or none is
pub first_is : (c : ℕ) (s : List ℕ) (r : Option ℕ) → MatchOption r ((k : ℕ) → k < length s → get_or s k 0 ≡ c → ⊥) (λ i. (i < length s) × (get_or s i 0 ≡ c) × ((k : ℕ) → k < i → get_or s k 0 ≡ c → ⊥)) → unwrap_or r (length s) ≡ length (before c s)
unfolding before
first_is c s None h = none s h
  where
    none : (s : List ℕ) → ((k : ℕ) → k < length s → get_or s k 0 ≡ c → ⊥) → length s ≡ length (before c s)
    none [] h = refl
    none (b ∷ s) h = rw (ne_eqb b c (h 0 (omega arith))) (ap suc (none s (λ k l. h (suc k) (omega arith))))
first_is c s (Some i) h = at s i h.0 h.1 h.2
  where
    at : (s : List ℕ) (i : ℕ) → i < length s → get_or s i 0 ≡ c → ((k : ℕ) → k < i → get_or s k 0 ≡ c → ⊥) → i ≡ length (before c s)
    at [] i l e h = absurd (let z : ⊥ = omega arith in z)
    at (b ∷ s) zero l e h = rw (eq-eqb b c e)
    at (b ∷ s) (suc i) l e h = rw (ne_eqb b c (h 0 (omega arith))) (ap suc (at s i (omega arith) e (λ k m. h (suc k) (omega arith))))

-- `starts_with` and `ends_with`
pub starts_is : (s p : List ℕ) → begins nat_eq s p ≡ starts_with p s
starts_is s p = equal_is _ _ ∙ go (leb (length p) (length s)) refl
  where
    go : (t : Bool) → leb (length p) (length s) ≡ t → equal p (take (length p) s) ≡ starts_with p s
    go true h = sym (starts_with_equal p s (leb-true _ _ h))
    go false h =
        let l : length s < length p = leb-false _ _ h in
        equal_lengths p (take (length p) s) (λ e. let k = length-take (length p) s in omega arith) ∙ sym (starts_with_short p s l)

pub ends_is : (s e : List ℕ) → ends nat_eq s e ≡ ends_with e s
unfolding ends_with
ends_is s e = equal_is _ _ ∙ go (leb (length e) (length s)) refl
  where
    rest : List ℕ
    rest = drop (length s - length e) s

    go : (t : Bool) → leb (length e) (length s) ≡ t → equal e rest ≡ leb (length e) (length s) && equal e rest
    go true h = rw h
    go false h =
        let l : length s < length e = leb-false _ _ h in
        rw h (equal_lengths e rest (λ z. let k = length-drop (length s - length e) s in omega arith))

-- `eq_ignore_ascii_case`
lower_is : (b : ℕ) → to_ascii_lowercase b ≡ lower_case b
unfolding lower_case within
lower_is b = grind (arith, nat_tests)

lower_all : (s : List ℕ) → map to_ascii_lowercase s ≡ map lower_case s
lower_all [] = refl
lower_all (b ∷ s) = rw (lower_is b, lower_all s)

decided : (r : Bool) (a b : List ℕ) → (IsTrue r ↔ (a ≡ b)) → r ≡ equal a b
decided true a b h = rw (h.0 refl) (sym (equal_refl b))
decided false a b h = go (equal a b) refl
  where
    go : (t : Bool) → equal a b ≡ t → false ≡ t
    go true e = h.1 (equal_true a b e)
    go false e = refl

pub ignoring_is : (r : Bool) (a b : List ℕ) → (IsTrue r ↔ (map to_ascii_lowercase a ≡ map to_ascii_lowercase b)) → r ≡ equal_ignoring_case a b
unfolding equal_ignoring_case
ignoring_is r a b h = rw (← lower_all a, ← lower_all b) (decided r _ _ h)

-- `copy_from_slice` into a part
pub overwrite_is : {A : Type 0} (at a n : ℕ) (t d : List A) → a ≡ min at (length d) → n ≡ min (length t) (length d - at) → put_mid a (a + n - a) d (take n t) ≡ overwrite at t d
unfolding overwrite
overwrite_is at a n t d e f =
    let k : a + n - a ≡ n = omega arith in
    rw (k, take_front, take_text, drop-drop n a d, behind) (sym (append_assoc (take at d) (take (length d - at) t) (drop (at + length t) d)))
  where
    take_front : take a d ≡ take at d
    take_front = rw e (take_min at d)

    take_text : take n t ≡ take (length d - at) t
    take_text =
        let g : n ≡ min (length d - at) (length t) = omega arith in
        rw g (take_min (length d - at) t)

    behind : drop (a + n) d ≡ drop (at + length t) d
    behind =
        let g : a + n ≡ min (at + length t) (length d) = omega arith in
        rw g (drop_min (at + length t) d)

-- `rposition`: the last byte that is c, or none is
no_byte : (c : ℕ) (s : List ℕ) → ((k : ℕ) → k < length s → get_or s k 0 ≡ c → ⊥) → contains c s ≡ false
unfolding contains
no_byte c [] h = refl
no_byte c (b ∷ s) h = rw (ne_eqb b c (h 0 (omega arith)), no_byte c s (λ k l. h (suc k) (omega arith)))

pub last_is : (c : ℕ) (s : List ℕ) (r : Option ℕ) → MatchOption r ((k : ℕ) → k < length s → get_or s k 0 ≡ c → ⊥) (λ i. (i < length s) × (get_or s i 0 ≡ c) × ((k : ℕ) → i < k → k < length s → get_or s k 0 ≡ c → ⊥)) → unwrap_or r (length s) ≡ length (before_last c s)
last_is c s None h = rw (last_none c s (no_byte c s h))
last_is c s (Some i) h =
    let n : length (drop (suc i) s) ≡ length s - suc i = length-drop (suc i) s in
    let none : contains c (drop (suc i) s) ≡ false =
    no_byte c (drop (suc i) s) (λ k l e. h.2 (suc i + k) (omega arith) (omega arith) (sym (get_or-drop (suc i) s k 0) ∙ e))
    in
    rw (last_at c s i h.0 h.1 none).1 (sym (length-take-le i s (omega arith)))

-- `windows` and `any`: a text that is not empty occurs where one of the windows of its length is equal to it
occurs_at : (t s : List ℕ) (k : ℕ) → starts_with t (drop k s) ≡ true → contains_text t s ≡ true
unfolding contains_text
occurs_at t [] zero h = h
occurs_at t [] (suc k) h = h
occurs_at t (b ∷ s) zero h = rw h
occurs_at t (b ∷ s) (suc k) h = rw (occurs_at t s k h) (or-true _)

occurs_not : (t s : List ℕ) → ((k : ℕ) → starts_with t (drop k s) ≡ false) → contains_text t s ≡ false
unfolding contains_text
occurs_not t [] h = h 0
occurs_not t (b ∷ s) h = rw (h 0, occurs_not t s (λ k. h (suc k)))

pub occurs_is : (t s : List ℕ) (r : Bool) → (length t ≡ 0 → ⊥) → (r ≡ false → (k x : ℕ) → k + length t ≤ length s → get_or s k 0 ≡ x → pointwise nat_eq t (take (length t) (drop k s)) ≡ false) → (r ≡ true → (k : ℕ) × (k + length t ≤ length s) × (pointwise nat_eq t (take (length t) (drop k s)) ≡ true)) → r ≡ contains_text t s
occurs_is t s true n none some =
    let y = some refl in
    let l : length t ≤ length (drop y.0 s) = omega (arith, length-drop y.0 s) in
    sym (occurs_at t s y.0 (starts_with_equal t (drop y.0 s) l ∙ sym (equal_is t _) ∙ y.2))
occurs_is t s false n none some = sym (occurs_not t s here)
  where
    here : (k : ℕ) → starts_with t (drop k s) ≡ false
    here k = go (leb (k + length t) (length s)) refl
      where
        go : (u : Bool) → leb (k + length t) (length s) ≡ u → starts_with t (drop k s) ≡ false
        go true h =
            let l : k + length t ≤ length s = leb-true _ _ h in
            starts_with_equal t (drop k s) (omega (arith, length-drop k s)) ∙ sym (equal_is t _) ∙ none refl k _ l refl
        go false h =
            let l : length s < k + length t = leb-false _ _ h in
            starts_with_short t (drop k s) (omega (arith, length-drop k s))

pub occurs_empty : (t s : List ℕ) → length t ≡ 0 → contains_text t s ≡ true
occurs_empty t s h = occurs_at t s 0 (starts_with_equal t s (omega arith) ∙ rw (h, nil_from_length t h) (equal_refl []))
