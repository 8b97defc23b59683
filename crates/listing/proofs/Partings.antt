-- Where two texts part: behind what they share, one ends or their bytes differ.
use Rattle.std.proofs.Common.{◌≡◌, ◌≢◌, ℕ, zero, suc, ◌+◌, ◌≤◌, ◌<◌, min, Bool, true, false, ltb, [], ◌∷◌, List}
use Rattle.std.proofs.Common.{length, drop, take, get_or, refl, sym, ◌∙◌, ap, arith, length-drop, get_or-drop}
use Rattle.std.proofs.Common.{drop-cons, drop_of_length-le}
use Rattle.std.specs.Prelude.{Some, None, if◌then◌else◌}
use Rattle.std.specs.Option.{is_some}
use Rattle.std.specs.Bool.{then_some}
use Rattle.std.specs.List.{zip, AllWithin, HoldsAt}
use Rattle.std.proofs.lemmas.Slice.Zip.{get_or-zip, length-zip}
use borrow.Author.Tests.{eq-eqb, ne_eqb, ltb-true, ltb-false}
use Rattle.definition.specs.Text.{Text, smaller}
use Rattle.laws.specs.TextSteps.{smaller_start, smaller_here, larger_here, smaller_end, take_more}
use Rattle.laws.specs.ListingOrder.{Shared, smaller_shared}
use Rattle.listing.specs.Meaning.{shared_length, parting_of}

shared_from : (i : ℕ) (p q : Text) → take i p ≡ take i q → i ≤ length p → i ≤ length q
    → shared_length p q ≡ i + shared_length (drop i p) (drop i q)
unfolding shared_length
shared_from zero p q e h k = omega arith
shared_from (suc i) [] q e h k = let z : ⊥ = omega arith in absurd z
shared_from (suc i) (x ∷ p) [] e h k = let z : ⊥ = omega arith in absurd z
shared_from (suc i) (x ∷ p) (y ∷ q) e h k =
    let n = shared_from i p q (ap (drop 1) e) (omega arith) (omega arith) in
    rw (eq-eqb x y (ap (λ t. get_or t 0 0) e)) (omega (arith, n))

pub not_up : (p q : Text) → smaller p q ≡ false → None ≡ parting_of p q
unfolding parting_of
not_up p q h = rw h

module _ (p q : Text) (i : ℕ) (e : take i p ≡ take i q) (h : i ≤ length p) (k : i < length q)
    (s : smaller (drop i p) (drop i q) ≡ smaller p q) where
  up_at : smaller (drop i p) (drop i q) ≡ true → shared_length (drop i p) (drop i q) ≡ 0 → Some i ≡ parting_of p q
  unfolding parting_of
  up_at t z =
      let n : shared_length p q ≡ i = omega (arith, shared_from i p q e h (omega arith), z) in
      let u : smaller p q ≡ true = sym s ∙ t in
      rw (u, n)

  pub up_short : length p ≤ i → Some i ≡ parting_of p q
  unfolding shared_length
  up_short n = up_at (smaller_start p q i n k) (rw (drop_of_length-le p n))

  pub up_here : i < length p → get_or p i 0 < get_or q i 0 → Some i ≡ parting_of p q
  unfolding shared_length
  up_here n l = up_at (smaller_here p q i n k l) (rw (
    drop-cons p i 0 n,
    drop-cons q i 0 k,
    ne_eqb (get_or p i 0) (get_or q i 0) (λ z. omega arith),
  ))

-- behind k shared bytes, the bytes are compared in pairs
module _ (p q : Text) (k : ℕ) (s : Shared p q k) where
  abbrev pub pairs : List (ℕ × ℕ)
  pairs = zip (drop k p) (drop k q)

  within : (j : ℕ) → j < length pairs → (k + j < length p) × (k + j < length q)
  within j h = (
    omega (arith, length-zip (drop k p) (drop k q), length-drop k p, length-drop k q),
    omega (arith, length-zip (drop k p) (drop k q), length-drop k p, length-drop k q),
  )

  pair_at : (j : ℕ) → j < length pairs → get_or pairs j (0, 0) ≡ (get_or p (k + j) 0, get_or q (k + j) 0)
  pair_at j h =
      let w = within j h in
      let n : (j < length (drop k p)) × (j < length (drop k q)) =
      (omega (arith, w.0, length-drop k p), omega (arith, w.1, length-drop k q)) in
      rw (get_or-zip (drop k p) (drop k q) j (0, 0) n.0 n.1, get_or-drop k p j 0, get_or-drop k q j 0)

  shared_on : (j : ℕ) → j ≤ length pairs → AllWithin (λ (x : ℕ × ℕ). x.0 ≡ x.1) pairs 0 j → Shared p q (k + j)
  shared_on zero h e = let z : k + 0 ≡ k = omega arith in rw z s
  shared_on (suc j) h e =
      let w = within j (omega arith) in
      let m = shared_on j (omega arith) (λ n d a b. e n d a (omega arith)) in
      let z : k + suc j ≡ k + j + 1 = omega arith in
      let x = rw (pair_at j (omega arith)) at (e j (0, 0) (omega arith) (omega arith)) in
      rw z (record {
        left = omega (arith, w.0);
        right = omega (arith, w.1);
        same = take_more p q (k + j) w.0 w.1 m.same x;
      })

  -- the first pair that differs decides
  pub parted : (i : ℕ) → i < length pairs → AllWithin (λ (x : ℕ × ℕ). x.0 ≡ x.1) pairs 0 i
      → HoldsAt (λ (x : ℕ × ℕ). x.0 ≢ x.1) pairs i
      → then_some (ltb (get_or p (k + i) 0) (get_or q (k + i) 0)) (k + i) ≡ parting_of p q
  parted i h e d = go (ltb (get_or p (k + i) 0) (get_or q (k + i) 0)) refl
    where
      t : Shared p q (k + i)
      t = shared_on i (omega arith) e

      u : smaller (drop (k + i) p) (drop (k + i) q) ≡ smaller p q
      u = smaller_shared (k + i) p q t.same t.left t.right

      w : (k + i < length p) × (k + i < length q)
      w = within i h

      go : (b : Bool) → ltb (get_or p (k + i) 0) (get_or q (k + i) 0) ≡ b → then_some b (k + i) ≡ parting_of p q
      go true f = up_here p q (k + i) t.same t.left w.1 u w.0 (ltb-true _ _ f)
      go false f =
          let x : get_or p (k + i) 0 ≢ get_or q (k + i) 0 = rw (pair_at i h) at (d (0, 0)) in
          let y : get_or q (k + i) 0 ≤ get_or p (k + i) 0 = ltb-false _ _ f in
          not_up p q (sym u ∙ larger_here p q (k + i) w.0 w.1 (omega (arith, x)))

  -- where no pair differs, the lengths do
  pub ended : AllWithin (λ (x : ℕ × ℕ). x.0 ≡ x.1) pairs 0 (length pairs)
      → then_some (ltb (length p) (length q)) (length p) ≡ parting_of p q
  ended e = go (ltb (length p) (length q)) refl
    where
      t : Shared p q (k + length pairs)
      t = shared_on (length pairs) (omega arith) e

      l : length pairs ≡ min (length (drop k p)) (length (drop k q))
      l = length-zip (drop k p) (drop k q)

      go : (b : Bool) → ltb (length p) (length q) ≡ b → then_some b (length p) ≡ parting_of p q
      go true f =
          let x : length p < length q = ltb-true _ _ f in
          let z : k + length pairs ≡ length p = omega (arith, l, length-drop k p, length-drop k q, s.left) in
          let v : Shared p q (length p) = rw z at t in
          up_short p q (length p) v.same v.left x (smaller_shared (length p) p q v.same v.left v.right) (omega arith)
      go false f =
          let x : length q ≤ length p = ltb-false _ _ f in
          let z : k + length pairs ≡ length q = omega (arith, l, length-drop k p, length-drop k q, s.right) in
          let v : Shared p q (length q) = rw z at t in
          not_up p q (sym (smaller_shared (length q) p q v.same v.left v.right)
          ∙ smaller_end p q (length q) (omega arith))

-- a text rises to one that it is below
pub told : (p q : Text) → is_some (parting_of p q) ≡ smaller p q
unfolding parting_of
told p q = go (smaller p q)
  where
    go : (b : Bool) → is_some (if b then Some (shared_length p q) else None) ≡ b
    go true = refl
    go false = refl
