-- Facts about the tests of `Text`.
use Rattle.std.specs.Prelude.{◌≡◌, Bool, ◌&&◌, ◌||◌, get_or, eqb}
use Rattle.std.proofs.Math.Path.{refl}
use Rattle.std.proofs.Common.{sym, ◌∙◌, ap, true≢false, length-append, length-drop, take_all, length-take-le, get_or-take, get_or-drop, get_or-append-add}
use Prim.Native.Nat.{ℕ, zero, suc, ◌+◌, ◌-◌, ◌≤◌, ◌<◌}
use Rattle.std.proofs.Math.Bool.{true, false, and-false}
use Rattle.std.proofs.lemmas.Bool.{false≢true}
use mathlib.Core.List.{List, [], ◌∷◌, ◌++◌, append_assoc}
use native.Mathlib.Omega.{arith}
use Rattle.std.proofs.Math.Nat.{sub-zero}
use Rattle.std.proofs.Math.ListN.{length, drop, take, replicate, length-take, drop_of_length-le, get_or-append}
use Rattle.std.proofs.lemmas.List.{length-replicate, get_or-replicate}
use Rattle.std.proofs.Math.Dec.{leb}
use Rattle.std.proofs.Math.Seq.{take_at, drop_at, take-append_seam}
use borrow.Author.Tests.{eqb-true, eq-eqb, leb-true, leb-false}
use Rattle.definition.specs.Text.{equal, starts_with, ends_with, contains, before, after, all, overwrite, zero_from}
use Rattle.laws.specs.TextSteps.{overwrite_past, zero_from_past}

pub and_true : (a b : Bool) → a && b ≡ true → (a ≡ true) × (b ≡ true)
and_true true b e = (refl, e)
and_true false b e = absurd (false≢true e)

pub or-false : (a b : Bool) → a || b ≡ false → (a ≡ false) × (b ≡ false)
or-false true b h = absurd (true≢false h)
or-false false b h = (refl, h)

pub equal_true : (s t : List ℕ) → equal s t ≡ true → s ≡ t
unfolding equal
equal_true [] [] e = refl
equal_true [] (b ∷ t) e = absurd (false≢true e)
equal_true (a ∷ s) [] e = absurd (false≢true e)
equal_true (a ∷ s) (b ∷ t) e =
    let h : (eqb a b ≡ true) × (equal s t ≡ true) = and_true _ _ e in
    let p : a ≡ b = eqb-true a b h.0 in
    let q : s ≡ t = equal_true s t h.1 in
    cc

pub equal_refl : (s : List ℕ) → equal s s ≡ true
unfolding equal
equal_refl [] = refl
equal_refl (a ∷ s) = rw (eq-eqb a a refl, equal_refl s)

pub starts_with_take : (p s : List ℕ) → starts_with p s ≡ true → p ≡ take (length p) s
unfolding starts_with
starts_with_take [] s e = refl
starts_with_take (a ∷ p) [] e = absurd (false≢true e)
starts_with_take (a ∷ p) (b ∷ s) e =
    let h : (eqb a b ≡ true) × (starts_with p s ≡ true) = and_true _ _ e in
    let x : a ≡ b = eqb-true a b h.0 in
    let y : p ≡ take (length p) s = starts_with_take p s h.1 in
    cc

pub starts_with_length : (p s : List ℕ) → starts_with p s ≡ true → length p ≤ length s
starts_with_length p s e =
    let h : length p ≡ length (take (length p) s) = ap length (starts_with_take p s e) in
    omega (arith, h, length-take (length p) s)

pub ends_with_drop : (t s : List ℕ) → ends_with t s ≡ true → (t ≡ drop (length s - length t) s) × (length t ≤ length s)
unfolding ends_with
ends_with_drop t s e =
    let h : (leb (length t) (length s) ≡ true) × (equal t (drop (length s - length t) s) ≡ true) = and_true _ _ e in
    (equal_true _ _ h.1, leb-true _ _ h.0)

-- a text with the byte c is what stands before it, c, and what stands after
pub before_after : (c : ℕ) (s : List ℕ) → contains c s ≡ true → s ≡ before c s ++ c ∷ after c s
unfolding contains before after
before_after c [] e = absurd (false≢true e)
before_after c (b ∷ s) e = go (eqb b c) refl (before_after c s)
  where
    go : (t : Bool) → eqb b c ≡ t → (contains c s ≡ true → s ≡ before c s ++ c ∷ after c s) → b ∷ s ≡ before c (b ∷ s) ++ c ∷ after c (b ∷ s)
    go true h ih = rw h (ap (λ x. x ∷ s) (eqb-true b c h))
    go false h ih = rw h (ap (λ l. b ∷ l) (ih (rw h at e)))

pub before_after_length : (c : ℕ) (s : List ℕ) → contains c s ≡ true → length s ≡ suc (length (before c s) + length (after c s))
before_after_length c s e =
    let h : length s ≡ length (before c s ++ c ∷ after c s) = ap length (before_after c s e) in
    omega (arith, h, length-append (before c s) (c ∷ after c s))

-- a test that every element passes, or that one does not
module _ {A : Type 0} (p : A → Bool) (z : A) where
  pub all_yes : (l : List A) → ((k : ℕ) → k < length l → p (get_or l k z) ≡ true) → all p l ≡ true
  unfolding all
  all_yes [] h = refl
  all_yes (a ∷ l) h = rw (h 0 (omega arith)) (all_yes l (λ k i. h (suc k) (omega arith)))

  pub all_at : (l : List A) (k : ℕ) → all p l ≡ true → k < length l → p (get_or l k z) ≡ true
  unfolding all
  all_at [] k e h = let x : ⊥ = omega arith in absurd x
  all_at (a ∷ l) zero e h = (and_true _ _ e).0
  all_at (a ∷ l) (suc k) e h = all_at l k (and_true (p a) _ e).1 (omega arith)

  pub all_no : (l : List A) (k : ℕ) → k < length l → p (get_or l k z) ≡ false → all p l ≡ false
  unfolding all
  all_no [] k h e = let x : ⊥ = omega arith in absurd x
  all_no (a ∷ l) zero h e = simp e
  all_no (a ∷ l) (suc k) h e = rw (all_no l k (omega arith) e) (and-false (p a))

-- a text put into a buffer at a place: the length stays, as does what stands before the place and behind the text
module _ {A : Type 0} (at : ℕ) (t d : List A) where
  pub overwrite_length : length (overwrite at t d) ≡ length d
  unfolding overwrite
  overwrite_length = simp (length-append, length-take, length-drop) (omega arith)

  apart : overwrite at t d ≡ take at d ++ (take (length d - at) t ++ drop (at + length t) d)
  unfolding overwrite
  apart = append_assoc (take at d) (take (length d - at) t) (drop (at + length t) d)

  pub overwrite_take : take at (overwrite at t d) ≡ take at d
  overwrite_take = go (leb at (length d)) refl
    where
      go : (b : Bool) → leb at (length d) ≡ b → take at (overwrite at t d) ≡ take at d
      go true e = rw apart (take_at _ _ at (length-take-le at d (leb-true _ _ e)))
      go false e = let h : length d < at = leb-false _ _ e in rw (overwrite_past at t d (omega arith))

  pub overwrite_before : (i : ℕ) (z : A) → i < at → get_or (overwrite at t d) i z ≡ get_or d i z
  overwrite_before i z h = sym (get_or-take at (overwrite at t d) i z h) ∙ rw overwrite_take (get_or-take at d i z h)

  pub overwrite_inside : (i : ℕ) (z : A) → i < length t → at + i < length d → get_or (overwrite at t d) (at + i) z ≡ get_or t i z
  overwrite_inside i z h k =
      let x : List A = take (length d - at) t in
      let y : List A = drop (at + length t) d in
      let n : length (take at d) ≡ at = length-take-le at d (omega arith) in
      let m : i < length x = simp length-take (omega arith) in
      let p : get_or (take at d ++ (x ++ y)) (at + i) z ≡ get_or (x ++ y) i z = rw n at (get_or-append-add (take at d) (x ++ y) i z) in
      rw apart (p ∙ get_or-append x y z i m ∙ get_or-take (length d - at) t i z (omega arith))

  -- where it has room
  module _ (h : at + length t ≤ length d) where
    pub overwrite_fits : overwrite at t d ≡ take at d ++ t ++ drop (at + length t) d
    unfolding overwrite
    overwrite_fits = rw (take_all (length d - at) t (omega arith))

    pub overwrite_upto : take (at + length t) (overwrite at t d) ≡ take at d ++ t
    overwrite_upto =
        let n : length (take at d) ≡ at = length-take-le at d (omega arith) in
        rw overwrite_fits (take_at (take at d ++ t) (drop (at + length t) d) (at + length t) (simp length-append (omega arith)))

    pub overwrite_text : take (length t) (drop at (overwrite at t d)) ≡ t
    overwrite_text = rw (overwrite_fits, append_assoc (take at d) t (drop (at + length t) d), drop_at (take at d) (t ++ drop (at + length t) d) at (length-take-le at d (omega arith))) (take-append_seam t _)

  pub overwrite_drop : drop (at + length t) (overwrite at t d) ≡ drop (at + length t) d
  overwrite_drop = go (leb (at + length t) (length d)) refl
    where
      go : (b : Bool) → leb (at + length t) (length d) ≡ b → drop (at + length t) (overwrite at t d) ≡ drop (at + length t) d
      go true e =
          let h : at + length t ≤ length d = leb-true _ _ e in
          let n : length (take at d) ≡ at = length-take-le at d (omega arith) in
          rw (overwrite_fits h) (drop_at (take at d ++ t) (drop (at + length t) d) (at + length t) (simp length-append (omega arith)))
      go false e =
          let h : length d < at + length t = leb-false _ _ e in
          let k : length (overwrite at t d) ≤ at + length t = omega (arith, overwrite_length) in
          let l : length d ≤ at + length t = omega arith in
          drop_of_length-le (overwrite at t d) k ∙ sym (drop_of_length-le d l)

  pub overwrite_behind : (i : ℕ) (z : A) → at + length t ≤ i → get_or (overwrite at t d) i z ≡ get_or d i z
  overwrite_behind i z h =
      let j : ℕ = i - (at + length t) in
      let e : at + length t + j ≡ i = omega arith in
      rw (← e) (sym (get_or-drop (at + length t) (overwrite at t d) j z) ∙ rw overwrite_drop (get_or-drop (at + length t) d j z))

-- zeros from a place on
module _ (at : ℕ) (d : List ℕ) where
  pub zero_from_length : length (zero_from at d) ≡ length d
  unfolding zero_from
  zero_from_length = simp (length-append, length-take, length-replicate) (omega arith)

  pub zero_from_take : take at (zero_from at d) ≡ take at d
  unfolding zero_from
  zero_from_take = go (leb at (length d)) refl
    where
      go : (b : Bool) → leb at (length d) ≡ b → take at (zero_from at d) ≡ take at d
      go true e = take_at (take at d) _ at (length-take-le at d (leb-true _ _ e))
      go false e = let h : length d < at = leb-false _ _ e in rw (zero_from_past at d (omega arith))

  pub zero_from_drop : drop at (zero_from at d) ≡ replicate (length d - at) 0
  unfolding zero_from
  zero_from_drop = go (leb at (length d)) refl
    where
      go : (b : Bool) → leb at (length d) ≡ b → drop at (zero_from at d) ≡ replicate (length d - at) 0
      go true e = drop_at (take at d) _ at (length-take-le at d (leb-true _ _ e))
      go false e =
          let h : length d < at = leb-false _ _ e in
          let n : length d - at ≡ 0 = omega arith in
          let k : length d ≤ at = omega arith in
          rw (zero_from_past at d k, n, drop_of_length-le d k)

  pub zero_from_before : (i z : ℕ) → i < at → get_or (zero_from at d) i z ≡ get_or d i z
  zero_from_before i z h = sym (get_or-take at (zero_from at d) i z h) ∙ rw zero_from_take (get_or-take at d i z h)

  pub zero_from_behind : (i z : ℕ) → at ≤ i → i < length d → get_or (zero_from at d) i z ≡ 0
  zero_from_behind i z h k =
      let j : ℕ = i - at in
      let e : at + j ≡ i = omega arith in
      rw (← e) (sym (get_or-drop at (zero_from at d) j z) ∙ rw zero_from_drop (get_or-replicate (length d - at) j 0 z (omega arith)))

pub zero_from_all : (d : List ℕ) → zero_from 0 d ≡ replicate (length d) 0
unfolding zero_from
zero_from_all d = rw (sub-zero (length d))

-- a text, and zeros behind it
pub zero_from_overwrite : (at : ℕ) (t d : List ℕ) → at + length t ≤ length d → zero_from (at + length t) (overwrite at t d) ≡ take at d ++ t ++ replicate (length d - (at + length t)) 0
unfolding zero_from
zero_from_overwrite at t d h = rw (overwrite_upto at t d h, overwrite_length at t d)
