-- Where the fragment begins, and whether a "#" before it is escaped. Assumes nothing.
use mathlib.Core.Path.{◌≡◌, refl, sym, ◌∙◌, ap}
use Prim.Native.Nat.compare
use Prim.Native.Nat.{ℕ, zero, suc, ◌+◌, ◌-◌, ◌≤◌, ◌<◌}
use mathlib.Core.Bool.{Bool, true, false, not, ◌&&◌, and-false}
use mathlib.Core.List.{List, [], ◌∷◌}
use native.Mathlib.Omega.{arith}
use native.Mathlib.Numerals.{add-one}
use borrow.Author.Tests.{eq-eqb, ne_eqb, eqb-true, eqb-false, lt-ltb}
use lib.Dec.{eqb, ltb}
use lib.ListN.{length, drop, get_or}
use Rattle.std.specs.Prelude.{if◌then◌else◌}
use Rattle.definition.specs.Text.{hash, starts_with, contains_text, before}
use Rattle.definition.specs.Specifier.{before_fragment, body}
use Rattle.laws.specs.TextLaws.{and_true}
use Rattle.laws.specs.TextSteps.{before_inside}
use Rattle.specifier.specs.Meaning.{IsFirstHash}

-- a "#" that p, or another byte than 0, stands before: the first one is at a place, or there is none up to the end
begins : (p : ℕ) (s : List ℕ) (i : ℕ) → i ≤ length s
    → (i < length s → (get_or s i 0 ≡ hash) × (get_or (p ∷ s) i 0 ≡ 0 → ⊥))
    → ((k : ℕ) → k < i → get_or s k 0 ≡ hash → (get_or (p ∷ s) k 0 ≡ 0 → ⊥) → ⊥) → i ≡ length (before_fragment p s)
unfolding before_fragment
begins p [] i l f h = omega arith
begins p (b ∷ s) zero l f h = let g = f (omega arith) in rw (eq-eqb b hash g.0, ne_eqb p 0 g.1)
begins p (b ∷ s) (suc i) l f h =
    go (eqb b hash && not (eqb p 0)) refl
    (begins b s i (omega arith) (λ m. f (omega arith)) (λ k m. h (suc k) (omega arith)))
  where
    go : (t : Bool) → eqb b hash && not (eqb p 0) ≡ t → i ≡ length (before_fragment b s)
        → suc i ≡ length (if t then [] else b ∷ before_fragment b s)
    go true e r = let g = and_true (eqb b hash) _ e in
        absurd (h 0 (omega arith) (eqb-true b hash g.0) (λ z. eqb-false p 0 (not-is (eqb p 0) g.1) z))
      where
        not-is : (t : Bool) → not t ≡ true → t ≡ false
        not-is true e = cc
        not-is false e = refl
    go false e r = ap suc r

pub body_none : (s : List ℕ) → ((k : ℕ) → k + 2 ≤ length s → get_or s (k + 1) 0 ≡ hash → (get_or s k 0 ≡ 0 → ⊥) → ⊥)
    → length s ≡ length (body s)
unfolding body
body_none [] h = refl
body_none (b ∷ s) h =
    ap suc (begins b s (length s) (omega arith) (λ l. absurd (omega arith)) (λ k l e. h k (omega arith) (rw add-one e)))

pub body_found : (s : List ℕ) (i : ℕ) → i + 2 ≤ length s → get_or s (i + 1) 0 ≡ hash → (get_or s i 0 ≡ 0 → ⊥)
    → ((k : ℕ) → k < i → get_or s (k + 1) 0 ≡ hash → (get_or s k 0 ≡ 0 → ⊥) → ⊥) → i + 1 ≡ length (body s)
unfolding body
body_found [] i l e n h = absurd (let z : ⊥ = omega arith in z)
body_found (b ∷ s) i l e n h =
    let g = begins b s i (omega arith) (λ m. (rw add-one at e, n)) (λ k m z. h k m (rw add-one z)) in omega arith

-- the first "#", and what is before the fragment: up to that "#", or with an escaped one beyond it
first_stops : (p : ℕ) (s : List ℕ)
    → (length (before hash s) < length s → get_or (p ∷ s) (length (before hash s)) 0 ≡ 0 → ⊥)
    → length (before hash s) ≡ length (before_fragment p s)
unfolding before before_fragment
first_stops p [] h = refl
first_stops p (b ∷ s) h = go (eqb b hash) h (first_stops b s)
  where
    go : (t : Bool)
        → (length (if t then [] else b ∷ before hash s) < suc (length s)
        → get_or (p ∷ b ∷ s) (length (if t then [] else b ∷ before hash s)) 0 ≡ 0 → ⊥)
        → ((length (before hash s) < length s → get_or (b ∷ s) (length (before hash s)) 0 ≡ 0 → ⊥)
        → length (before hash s) ≡ length (before_fragment b s))
        → length (if t then [] else b ∷ before hash s)
        ≡ length (if t && not (eqb p 0) then [] else b ∷ before_fragment b s)
    go true h r = rw (ne_eqb p 0 (h (omega arith)))
    go false h r = ap suc (r (λ l. h (omega arith)))

first_goes : (p : ℕ) (s : List ℕ) → length (before hash s) < length s → get_or (p ∷ s) (length (before hash s)) 0 ≡ 0
    → length (before hash s) + length (body (drop (length (before hash s)) s)) ≡ length (before_fragment p s)
unfolding before before_fragment body
first_goes p [] l e = absurd (let z : ⊥ = omega arith in z)
first_goes p (b ∷ s) l e = go (eqb b hash) l e (first_goes b s)
  where
    go : (t : Bool) → length (if t then [] else b ∷ before hash s) < suc (length s)
        → get_or (p ∷ b ∷ s) (length (if t then [] else b ∷ before hash s)) 0 ≡ 0
        → (length (before hash s) < length s → get_or (b ∷ s) (length (before hash s)) 0 ≡ 0
        → length (before hash s) + length (body (drop (length (before hash s)) s)) ≡ length (before_fragment b s))
        → length (if t then [] else b ∷ before hash s)
        + length (body (drop (length (if t then [] else b ∷ before hash s)) (b ∷ s)))
        ≡ length (if t && not (eqb p 0) then [] else b ∷ before_fragment b s)
    go true l e r = rw (eq-eqb p 0 e) (omega arith)
    go false l e r = let g = r (omega arith) e in omega arith

abbrev pub escape : List ℕ
escape = 0 ∷ hash ∷ []

further : (m n : ℕ) → ltb (suc m) (suc n) ≡ ltb m n
further m n = rw (compare.suc-suc (suc m) n)

first_marks : (p : ℕ) (s : List ℕ)
    → ltb (length (before hash s)) (length (before_fragment p s)) ≡ contains_text escape (p ∷ before_fragment p s)
unfolding before before_fragment contains_text starts_with
first_marks p [] = rw (and-false (eqb 0 p))
first_marks p (b ∷ s) = go (eqb b hash) refl (first_marks b s)
  where
    go : (t : Bool) → eqb b hash ≡ t
        → ltb (length (before hash s)) (length (before_fragment b s)) ≡ contains_text escape (b ∷ before_fragment b s)
        → ltb (length (if t then [] else b ∷ before hash s))
        (length (if t && not (eqb p 0) then [] else b ∷ before_fragment b s))
        ≡ contains_text escape (p ∷ (if t && not (eqb p 0) then [] else b ∷ before_fragment b s))
    go true e r = by (eqb p 0) refl
      where
        by : (u : Bool) → eqb p 0 ≡ u
            → ltb 0 (length (if not u then [] else b ∷ before_fragment b s))
            ≡ contains_text escape (p ∷ (if not u then [] else b ∷ before_fragment b s))
        by true f = rw (eq-eqb 0 p (sym (eqb-true p 0 f)), eq-eqb hash b (sym (eqb-true b hash e)))
            (lt-ltb 0 (suc (length (before_fragment b s))) (omega arith))
        by false f = rw (and-false (eqb 0 p))
    go false e r = rw (ne_eqb hash b (λ z. eqb-false b hash e (sym z)), and-false (eqb 0 p)) (further _ _ ∙ r)

module _ (b : ℕ) (s : List ℕ) (i : ℕ) (g : IsFirstHash (b ∷ s) i) where
  place : i ≡ suc (length (before hash s))
  place = omega (arith, before_inside hash s)

pub fragment_first : (s : List ℕ) (i : ℕ) → IsFirstHash s i → (i < length s → get_or s (i - 1) 0 ≡ 0 → ⊥)
    → i ≡ length (body s)
unfolding body
fragment_first [] i g h = omega arith
fragment_first (b ∷ s) i g h =
    let e = place b s i g in
    let m : i - 1 ≡ length (before hash s) = omega arith in
    e ∙ ap suc (first_stops b s (λ l z. h (omega arith) (rw m z)))

pub fragment_later : (s : List ℕ) (i : ℕ) → IsFirstHash s i → i < length s → get_or s (i - 1) 0 ≡ 0
    → i + length (body (drop i s)) ≡ length (body s)
fragment_later [] i g l z = absurd (let z : ⊥ = omega arith in z)
fragment_later (b ∷ s) i g l z =
    let e = place b s i g in
    let m : i - 1 ≡ length (before hash s) = omega arith in
    let f = first_goes b s (omega arith) (rw m at z) in
    rw e (unfold body in omega arith)

pub escaped_is : (s : List ℕ) (i : ℕ) → IsFirstHash s i → ltb i (length (body s)) ≡ contains_text escape (body s)
escaped_is [] i g = let e : i ≡ 0 = omega arith in rw e (unfold body contains_text starts_with in refl)
escaped_is (b ∷ s) i g = rw (place b s i g) (unfold body in further _ _ ∙ first_marks b s)

-- what is before the fragment is a part of the specifier
fragment_inside : (p : ℕ) (s : List ℕ) → length (before_fragment p s) ≤ length s
unfolding before_fragment
fragment_inside p [] = omega arith
fragment_inside p (b ∷ s) = go (eqb b hash && not (eqb p 0)) (fragment_inside b s)
  where
    go : (t : Bool) → length (before_fragment b s) ≤ length s
        → length (if t then [] else b ∷ before_fragment b s) ≤ suc (length s)
    go true h = omega arith
    go false h = omega arith

pub body_inside : (s : List ℕ) → length (body s) ≤ length s
unfolding body
body_inside [] = omega arith
body_inside (b ∷ s) = omega (arith, fragment_inside b s)
