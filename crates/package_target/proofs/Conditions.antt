-- Conditions by their numbers: a name has one number, and a number below 256 one name.
use mathlib.Core.Path.{◌≡◌, refl, sym, ◌∙◌, ap}
use mathlib.Core.Bool.{Bool, true, false, cond, not, ◌||◌}
use mathlib.Core.List.{List, [], ◌∷◌}
use Prim.Native.Nat.{ℕ, zero, suc, ◌+◌, ◌-◌, ◌<◌, ◌≤◌}
use native.Mathlib.Omega.{arith}
use lib.Dec.{ltb}
use lib.ListN.{length, get_or, set, drop, replicate, length-take}
use borrow.Author.Tests.{lt-ltb, le-ltb, ltb-true, ltb-false}
use Rattle.std.specs.List.{position, position_or_len}
use Rattle.std.specs.Prelude.{Some, None, if◌then◌else◌}
use Rattle.definition.specs.Text.{Text, text, equal, is_one_of}
use Rattle.definition.specs.Settings.{count_of, count_before, all_texts, texts_of}
use Rattle.laws.specs.TextLaws.{equal_true}
use Rattle.std.proofs.lemmas.List.{get_or-map, length-map, map-set}
use Rattle.package_target.specs.Conditions.{place_in, condition_of, place_of, places, Turn}
use Rattle.package_target.proofs.Places.{equal_sym}

by : (u : Bool) {P : Type 0} → (u ≡ true → P) → (u ≡ false → P) → P
by true t f = t refl
by false t f = f refl

-- a text that is one of the others has a place among them, and any other has none
place_in_lem : (n : ℕ) (cs : List Text) (k : Text) → n + length cs ≤ 256 → is_one_of cs k ≡ ltb (place_in n cs k) 256
unfolding place_in is_one_of
place_in_lem n [] k l = refl
place_in_lem n (c ∷ cs) k l =
    by (equal c k) (λ e. rw e (sym (lt-ltb n 256 (omega arith)))) (λ e. rw e (place_in_lem (suc n) cs k (omega arith)))

place_from : (n : ℕ) (cs : List Text) (k : Text) → place_in n cs k < 256 → n ≤ place_in n cs k
unfolding place_in
place_from n [] k l = omega arith
place_from n (c ∷ cs) k l =
    by (equal c k) (λ e. rw e (omega arith))
    (λ e. rw e (let b = place_from (suc n) cs k (rw e at l) in omega (arith, b)))

name_at : (n : ℕ) (cs : List Text) (k : Text) → place_in n cs k < 256 → get_or cs (place_in n cs k - n) [] ≡ k
unfolding place_in
name_at n [] k l = absurd (let z : ⊥ = omega arith in z)
name_at n (c ∷ cs) k l = go (equal c k) refl l (λ a. name_at (suc n) cs k a)
  where
    go : (u : Bool) → equal c k ≡ u → (if u then n else place_in (suc n) cs k) < 256
        → (place_in (suc n) cs k < 256 → get_or cs (place_in (suc n) cs k - suc n) [] ≡ k)
        → get_or (c ∷ cs) ((if u then n else place_in (suc n) cs k) - n) [] ≡ k
    go true e l f = let z : n - n ≡ 0 = omega arith in rw z (equal_true c k e)
    go false e l f =
        let a = place_from (suc n) cs k l in
        let z : place_in (suc n) cs k - n ≡ suc (place_in (suc n) cs k - suc n) = omega arith in
        rw z (f l)

pub condition_holds : (cs : List Text) (k : Text) → length cs < 256
    → equal k (text "default") || is_one_of cs k ≡ ltb (condition_of cs k) 256
unfolding condition_of
condition_holds cs k l = by (equal k (text "default")) (λ e. rw e) (λ e. rw e (place_in_lem 1 cs k (omega arith)))

-- the name of a condition's number
unfoldable name_of : List Text → ℕ → Text
name_of cs zero = text "default"
name_of cs (suc i) = get_or cs i []

named : (cs : List Text) (k : Text) → condition_of cs k < 256 → name_of cs (condition_of cs k) ≡ k
unfolding condition_of name_of
named cs k l = by (equal k (text "default")) (λ e. rw e (sym (equal_true k (text "default") e))) other
  where
    other : equal k (text "default") ≡ false → name_of cs (if equal k (text "default") then 0 else place_in 1 cs k) ≡ k
    other e =
        let a : place_in 1 cs k < 256 = rw e at l in
        let f = place_from 1 cs k a in
        let z : place_in 1 cs k ≡ suc (place_in 1 cs k - 1) = omega (arith, f) in
        rw e (ap (name_of cs) z ∙ name_at 1 cs k a)

pub same_condition : (cs : List Text) (k l : Text) → condition_of cs k < 256 → condition_of cs k ≡ condition_of cs l
    → k ≡ l
same_condition cs k l a e = sym (named cs k a) ∙ ap (name_of cs) e ∙ named cs l (omega (arith, a, e))

-- the place of a name is the first at which a test finds it
module _ (k : Text) (p : Text → Bool) (e : (c : Text) → p c ≡ equal k c) where
  place_len : (n : ℕ) (cs : List Text)
      → (position_or_len p cs < length cs → place_in n cs k ≡ n + position_or_len p cs)
      × (length cs ≤ position_or_len p cs → place_in n cs k ≡ 256)
  unfolding place_in
  place_len n [] = (λ h. absurd (let z : ⊥ = omega arith in z), λ h. refl)
  place_len n (c ∷ cs) = go (p c) (equal_sym c k ∙ sym (e c)) (place_len (suc n) cs)
    where
      go : (b : Bool) → equal c k ≡ b
          → (position_or_len p cs < length cs → place_in (suc n) cs k ≡ suc n + position_or_len p cs)
          × (length cs ≤ position_or_len p cs → place_in (suc n) cs k ≡ 256)
          → (cond (not b) (1 + position_or_len p cs) 0 < suc (length cs)
          → (if equal c k then n else place_in (suc n) cs k) ≡ n + cond (not b) (1 + position_or_len p cs) 0)
          × (suc (length cs) ≤ cond (not b) (1 + position_or_len p cs) 0
          → (if equal c k then n else place_in (suc n) cs k) ≡ 256)
      go true f g = (λ h. rw f (omega arith), λ h. absurd (let z : ⊥ = omega arith in z))
      go false f g =
          (λ h. rw f (let a = g.0 (omega arith) in omega (arith, a)), λ h. rw f (g.1 (omega arith)))

  pub place_found : (cs : List Text) (i : ℕ) → Some i ≡ position p cs → (place_in 1 cs k ≡ 1 + i) × (i < length cs)
  place_found cs i h = go (ltb (position_or_len p cs) (length cs)) refl h
    where
      go : (b : Bool) → ltb (position_or_len p cs) (length cs) ≡ b → Some i ≡ cond b (Some (position_or_len p cs)) None
          → (place_in 1 cs k ≡ 1 + i) × (i < length cs)
      go true f h =
          let z : i ≡ position_or_len p cs = cc in
          rw z ((place_len 1 cs).0 (ltb-true _ _ f), ltb-true _ _ f)
      go false f h = absurd (let z : ◌≡◌ {A = ℕ} 0 1 = cc in omega arith)

  pub place_none : (cs : List Text) → None ≡ position p cs → place_in 1 cs k ≡ 256
  place_none cs h = go (ltb (position_or_len p cs) (length cs)) refl h
    where
      go : (b : Bool) → ltb (position_or_len p cs) (length cs) ≡ b → None ≡ cond b (Some (position_or_len p cs)) None
          → place_in 1 cs k ≡ 256
      go true f h = absurd (let z : ◌≡◌ {A = ℕ} 0 1 = cc in omega arith)
      go false f h = (place_len 1 cs).1 (ltb-false _ _ f)

pub is_default : (k : Text) (cs : List Text) → equal k (text "default") ≡ true → 0 ≡ condition_of cs k
unfolding condition_of
is_default k cs e = rw e

pub not_default : (k : Text) (cs : List Text) → equal k (text "default") ≡ false → condition_of cs k ≡ place_in 1 cs k
unfolding condition_of
not_default k cs e = rw e

-- a count is one byte
pub counted : (s : List ℕ) → length (texts_of s 0) ≤ get_or s 0 0
unfolding texts_of count_of
counted s = omega (arith, length-take (get_or s 0 0) (drop (count_before s 0) (all_texts s)))

-- tables of places
pub none_written : (end n : ℕ) → places end (replicate n end) ≡ replicate n None
none_written end zero = refl
none_written end (suc n) = rw (le-ltb end end (omega arith)) (ap (λ y. None ∷ y) (none_written end n))

pub places_size : (end : ℕ) (values : List ℕ) → length values ≡ 256 → length (places end values) ≡ 256
places_size end values l = length-map values (place_of end) ∙ l

pub place_written : (end : ℕ) (values : List ℕ) (k v : ℕ) → v < end
    → places end (set values k v) ≡ set (places end values) k (Some v)
place_written end values k v l =
    map-set (place_of end) values k v ∙ ap (λ y. set (places end values) k y) (rw (lt-ltb v end l))

-- the turn of a condition
module _ (end : ℕ) (values : List ℕ) (l : length values ≡ 256) where
  no_place : place_of end end ≡ None
  no_place = rw (le-ltb end end (omega arith))

  pub turn_taken : (k : ℕ) → k < 256
      → Turn k (places end values) (places end (set values k end)) (place_of end (get_or values k 0))
  turn_taken k h = record {
    taken = sym (get_or-map (place_of end) values k 0 None (omega arith));
    others = map-set (place_of end) values k end ∙ ap (λ y. set (places end values) k y) no_place;
  }
