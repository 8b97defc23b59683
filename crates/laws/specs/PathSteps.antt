-- Parents, names and components at places of a slice.
use Rattle.std.specs.Prelude.{◌≡◌, ℕ, zero, suc, ◌+◌, ◌-◌, ◌≤◌, ◌<◌, Bool, true, false, not, ◌&&◌, ◌||◌, eqb, drop, take, get_or, if◌then◌else◌}
use Rattle.std.proofs.Math.Path.{refl}
use Rattle.std.proofs.Common.{sym, ◌∙◌, ap, eqb-true, eq-eqb, drop_of_length-le, drop-cons, drop-drop}
use Rattle.std.proofs.Math.Bool.{or-true}
use Rattle.std.proofs.lemmas.Bool.{false≢true}
use mathlib.Core.List.{List, [], ◌∷◌, ◌++◌}
use native.Mathlib.Omega.{arith}
use Rattle.std.proofs.Math.Numerals.{add-one}
use Rattle.std.proofs.Math.Dec.{eqb-zero-suc, eqb-suc-suc}
use Rattle.std.proofs.Math.ListN.{length, length-drop}
use Rattle.std.proofs.Math.Seq.{take-suc, take_all, length-take-le}
use Rattle.definition.specs.Text.{slash, starts_with, contains, count, before, before_last, to_first, split, all, Due, due, bad, is_utf8_from, is_utf8, due_after, within}
use Rattle.laws.specs.TextLaws.{and_true}
use Rattle.definition.specs.Path.{or_root, parent, name_of}

-- where a byte is missing, the text before it is the whole text
pub not_contains : (c : ℕ) (s : List ℕ) → not (contains c s) ≡ eqb (length (before c s)) (length s)
unfolding contains before
not_contains c [] = refl
not_contains c (b ∷ s) = go (eqb b c) (not_contains c s)
  where
    go : (t : Bool) → not (contains c s) ≡ eqb (length (before c s)) (length s) → not (t || contains c s) ≡ eqb (length (if t then [] else b ∷ before c s)) (suc (length s))
    go true h = sym (eqb-zero-suc (length s))
    go false h = h ∙ sym (eqb-suc-suc (length (before c s)) (length s))

-- what `split` gives behind the first part
unfoldable pub behind : ℕ → List ℕ → List (List ℕ)
behind c [] = []
behind c (b ∷ s) = split c s

split_first : (c : ℕ) (s : List ℕ) → split c s ≡ take (length (before c s)) s ∷ behind c (drop (length (before c s)) s)
unfolding split before behind to_first
split_first c [] = refl
split_first c (b ∷ s) = go (eqb b c) (split_first c s)
  where
    go : (t : Bool) → split c s ≡ take (length (before c s)) s ∷ behind c (drop (length (before c s)) s)
        → (if t then [] ∷ split c s else to_first b (split c s)) ≡ take (length (if t then [] else b ∷ before c s)) (b ∷ s) ∷ behind c (drop (length (if t then [] else b ∷ before c s)) (b ∷ s))
    go true h = refl
    go false h = ap (to_first b) h

-- the parts from a place on: the next c is at e
module _ (c : ℕ) (p : List ℕ) (at e : ℕ) (h : e ≡ at + length (before c (drop at p))) where
  pub split_at : split c (drop at p) ≡ take (e - at) (drop at p) ∷ behind c (drop e p)
  split_at =
      let k : length (before c (drop at p)) ≡ e - at = omega arith in
      let j : at + (e - at) ≡ e = omega arith in
      split_first c (drop at p) ∙ rw (k, drop-drop (e - at) at p, j)

pub behind_end : (c : ℕ) (p : List ℕ) (e : ℕ) → length p ≤ e → behind c (drop e p) ≡ []
unfolding behind
behind_end c p e h = rw (drop_of_length-le p h)

pub behind_more : (c : ℕ) (p : List ℕ) (e : ℕ) → e < length p → behind c (drop e p) ≡ split c (drop (e + 1) p)
unfolding behind
behind_more c p e h = rw (drop-cons p e 0 h, add-one e)

-- the start of a path
pub starts_with_lem : (c : ℕ) (p : List ℕ) → 0 < length p → starts_with (c ∷ []) p ≡ eqb c (get_or p 0 0)
unfolding starts_with
starts_with_lem c [] h = let z : ⊥ = omega arith in absurd z
starts_with_lem c (b ∷ p) h = go (eqb c b)
  where
    go : (t : Bool) → t && true ≡ t
    go true = refl
    go false = refl

pub starts_empty : (c : ℕ) (p : List ℕ) → length p ≡ 0 → starts_with (c ∷ []) p ≡ false
unfolding starts_with
starts_empty c [] h = refl
starts_empty c (b ∷ p) h = let z : ⊥ = omega arith in absurd z

-- the parent, by the place k of the last slash
module _ (p : List ℕ) where
  pub parent_none : contains slash p ≡ false → parent p ≡ []
  unfolding parent
  parent_none h = rw h

  module _ (k : ℕ) (h : k < length p) (t : contains slash p ≡ true) (b : before_last slash p ≡ take k p) where
    pub parent_root : k ≡ 0 → get_or p 0 0 ≡ slash → parent p ≡ take 1 p
    unfolding parent or_root
    parent_root z g = let e : 0 < length p = omega arith in rw (t, b, z, take-suc p 0 0 e, g)

    pub parent_some : (k ≡ 0 → ⊥) → parent p ≡ take (k - 0) p
    unfolding parent
    parent_some z = let d : k - 0 ≡ k = omega arith in rw (t, b, d) (root (take k p) (omega (arith, length-take-le k p (omega arith))))
      where
        root : (s : List ℕ) → 0 < length s → or_root s ≡ s
        root [] e = let z : ⊥ = omega arith in absurd z
        root (x ∷ s) e = unfold or_root in refl

    pub name_behind : name_of p ≡ take (length p - (k + 1)) (drop (k + 1) p)
    unfolding name_of
    name_behind = rw (t, b, length-take-le k p (omega arith), ← add-one k, take_all (length p - (k + 1)) (drop (k + 1) p) (omega (arith, length-drop (k + 1) p)))

  pub name_whole : contains slash p ≡ false → name_of p ≡ p
  unfolding name_of
  name_whole h = rw h

-- the last c of a text, by the length of what stands before it
pub record LastAt (c : ℕ) (s : List ℕ) (r : ℕ) : Type 0 where
  pub inside : r < length s
  pub there : contains c s ≡ true
  pub front : before_last c s ≡ take r s
  pub here : get_or s r 0 ≡ c
  pub none_after : contains c (drop (suc r) s) ≡ false

pub last_inside : (c : ℕ) (s : List ℕ) → length (before_last c s) ≤ length s
unfolding before_last
last_inside c [] = omega arith
last_inside c (b ∷ s) = go (contains c s) (eqb b c) (last_inside c s)
  where
    go : (u t : Bool) → length (before_last c s) ≤ length s → length (if u then b ∷ before_last c s else if t then [] else b ∷ s) ≤ suc (length s)
    go true t h = omega arith
    go false true h = omega arith
    go false false h = omega arith

pub last_missing : (c : ℕ) (s : List ℕ) → length (before_last c s) ≡ length s → contains c s ≡ false
unfolding before_last contains
last_missing c [] h = refl
last_missing c (b ∷ s) h = go (contains c s) (eqb b c) refl refl (last_missing c s) h
  where
    go : (u t : Bool) → contains c s ≡ u → eqb b c ≡ t → (length (before_last c s) ≡ length s → contains c s ≡ false)
        → length (if u then b ∷ before_last c s else if t then [] else b ∷ s) ≡ suc (length s) → t || u ≡ false
    go true t e f ih k = let z : contains c s ≡ false = ih (omega arith) in cc
    go false true e f ih k = let z : ⊥ = omega arith in absurd z
    go false false e f ih k = refl

pub last_found : (c : ℕ) (s : List ℕ) (r : ℕ) → r ≡ length (before_last c s) → r < length s → LastAt c s r
unfolding before_last contains
last_found c [] r e h = let z : ⊥ = omega arith in absurd z
last_found c (b ∷ s) r e h = go (contains c s) (eqb b c) refl refl (last_found c s) r e h
  where
    go : (u t : Bool) → contains c s ≡ u → eqb b c ≡ t → ((r : ℕ) → r ≡ length (before_last c s) → r < length s → LastAt c s r)
        → (r : ℕ) → r ≡ length (if u then b ∷ before_last c s else if t then [] else b ∷ s) → r < suc (length s) → LastAt c (b ∷ s) r
    go true t e f ih zero k h = let z : ⊥ = omega arith in absurd z
    go true t e f ih (suc r) k h =
        let i : LastAt c s r = ih r (omega arith) (omega arith) in
        record { inside = omega arith; there = simp (e, or-true); front = simp (e, i.front); here = i.here; none_after = i.none_after }
    go false true e f ih zero k h = record { inside = omega arith; there = simp f; front = simp (e, f); here = eqb-true b c f; none_after = e }
    go false true e f ih (suc r) k h = let z : ⊥ = omega arith in absurd z
    go false false e f ih r k h = let z : ⊥ = omega arith in absurd z

pub last_there : (c : ℕ) (s : List ℕ) (r : ℕ) → r ≡ length (before_last c s) → (r ≡ length s → ⊥) → LastAt c s r
last_there c s r e n = let f : r ≡ length s → ⊥ = n in last_found c s r e (omega (arith, last_inside c s))

-- texts put together
pub contains_append : (c : ℕ) (a b : List ℕ) → contains c (a ++ b) ≡ contains c a || contains c b
unfolding contains
contains_append c [] b = refl
contains_append c (x ∷ a) b = go (eqb x c) (contains_append c a b)
  where
    go : (t : Bool) → contains c (a ++ b) ≡ contains c a || contains c b → t || contains c (a ++ b) ≡ (t || contains c a) || contains c b
    go true h = refl
    go false h = h

pub count_append : (c : ℕ) (a b : List ℕ) → count c (a ++ b) ≡ count c a + count c b
unfolding count
count_append c [] b = omega arith
count_append c (x ∷ a) b = omega (arith, count_append c a b)

pub count_none : (c : ℕ) (s : List ℕ) → contains c s ≡ false → count c s ≡ 0
unfolding contains count
count_none c [] h = refl
count_none c (x ∷ s) h = go (eqb x c) refl (count_none c s)
  where
    go : (t : Bool) → eqb x c ≡ t → (contains c s ≡ false → count c s ≡ 0) → (if eqb x c then 1 else 0) + count c s ≡ 0
    go true e ih = absurd (false≢true (sym (rw e at h)))
    go false e ih = rw e (omega (arith, ih (rw e at h)))

pub all_append : {A : Type 0} (f : A → Bool) (a b : List A) → all f (a ++ b) ≡ all f a && all f b
unfolding all
all_append f [] b = refl
all_append f (x ∷ a) b = go (f x) (all_append f a b)
  where
    go : (t : Bool) → all f (a ++ b) ≡ all f a && all f b → t && all f (a ++ b) ≡ (t && all f a) && all f b
    go true h = h
    go false h = refl

pub split_none : (c : ℕ) (s : List ℕ) → contains c s ≡ false → split c s ≡ s ∷ []
unfolding contains split to_first
split_none c [] h = refl
split_none c (x ∷ s) h = go (eqb x c) refl (split_none c s)
  where
    go : (t : Bool) → eqb x c ≡ t → (contains c s ≡ false → split c s ≡ s ∷ []) → (if eqb x c then [] ∷ split c s else to_first x (split c s)) ≡ (x ∷ s) ∷ []
    go true e ih = absurd (false≢true (sym (rw e at h)))
    go false e ih = rw e (ap (to_first x) (ih (rw e at h)))

-- the last c parts off the last part
pub split_last : (c : ℕ) (a b : List ℕ) → contains c b ≡ false → split c (a ++ c ∷ b) ≡ split c a ++ b ∷ []
unfolding split to_first
split_last c [] b h = rw (eq-eqb c c refl, split_none c b h)
split_last c (x ∷ a) b h = go (eqb x c) (split_last c a b h)
  where
    first_of : (ys : List (List ℕ)) (y : List ℕ) (zs : List (List ℕ)) → ys ≡ y ∷ zs → to_first x (ys ++ b ∷ []) ≡ to_first x ys ++ b ∷ []
    first_of ys y zs e = rw e

    go : (t : Bool) → split c (a ++ c ∷ b) ≡ split c a ++ b ∷ [] → (if t then [] ∷ split c (a ++ c ∷ b) else to_first x (split c (a ++ c ∷ b))) ≡ (if t then [] ∷ split c a else to_first x (split c a)) ++ b ∷ []
    go true e = ap (λ l. [] ∷ l) e
    go false e = ap (to_first x) e ∙ first_of (split c a) _ _ (split_first c a)

-- UTF-8 in front of a text leaves the question to the text
pub utf8_append : (a b : List ℕ) (d : Due) → is_utf8_from a d ≡ true → is_utf8_from (a ++ b) d ≡ is_utf8 b
unfolding is_utf8_from is_utf8
utf8_append [] b bad h = absurd (false≢true h)
utf8_append [] [] (due zero lo hi) h = refl
utf8_append [] (x ∷ b) (due zero lo hi) h = refl
utf8_append [] b (due (suc n) lo hi) h = absurd (false≢true h)
utf8_append (x ∷ a) b bad h = absurd (false≢true h)
utf8_append (x ∷ a) b (due zero lo hi) h = utf8_append a b (due_after x) h
utf8_append (x ∷ a) b (due (suc n) lo hi) h =
    let k : (within lo hi x ≡ true) × (is_utf8_from a (due n 128 191) ≡ true) = and_true _ _ h in
    rw k.0 (utf8_append a b (due n 128 191) k.1)
