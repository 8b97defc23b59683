-- Eight bytes as a number: in the order of their texts where the first byte is the highest; and equal numbers are of
-- equal bytes.
use mathlib.Core.Path.{◌≡◌, refl, sym, ◌∙◌, ap}
use mathlib.Core.Bool.{true, ◌&&◌, ◌||◌}
use mathlib.Core.List.{List, [], ◌∷◌}
use mathlib.Core.Logic.{◌⊎◌, inl, inr}
use Prim.Native.Nat.{ℕ, zero, suc, ◌+◌, ◌*◌, ◌≤◌, ◌<◌}
use native.Mathlib.Omega.{arith}
use borrow.Author.Tests.{eq-eqb, lt-ltb, le-ltb}
use lib.Dec.{eqb, ltb}
use lib.ListN.{length, drop, take, get_or, length-drop}
use lib.Seq.{take-add, take-take, get_or-drop}
use Rattle.definition.specs.Text.{Text, smaller}
use Rattle.definition.specs.Listing.{number32}
use Rattle.laws.specs.ListingSteps.{at_or_under, number_at}
use Rattle.laws.specs.ListingOrder.{Shared, shared_start, shared_next, smaller_shared}
use Rattle.listing.specs.Meaning.{high_first, WordsOf}
use Rattle.listing.specs.declared.words.Words.{Words}

abbrev Bytes : List ℕ → Type 0
Bytes s = (i : ℕ) → get_or s i 0 < 256

bytes_rest : (x : ℕ) (s : List ℕ) → Bytes (x ∷ s) → Bytes s
bytes_rest x s b i = b (suc i)

bytes_drop : (s : List ℕ) → Bytes s → Bytes (drop 1 s)
bytes_drop [] b i = b i
bytes_drop (x ∷ s) b i = b (suc i)

high_keeps : (n a c : ℕ) (s t : List ℕ) → Bytes s → a < c → high_first n a s < high_first n c t
high_keeps zero a c s t b u = u
high_keeps (suc n) a c s t b u =
    high_keeps n (a * 256 + get_or s 0 0) (c * 256 + get_or t 0 0) (drop 1 s) (drop 1 t) (bytes_drop s b)
    (omega (arith, b 0))

high_less : (n a : ℕ) (s t : List ℕ) → Bytes s → Bytes t → n ≤ length s → n ≤ length t
    → high_first n a s < high_first n a t → smaller s t ≡ true
unfolding smaller
high_less zero a s t b c h k u = let z : ⊥ = omega arith in absurd z
high_less (suc n) a [] t b c h k u = let z : ⊥ = omega arith in absurd z
high_less (suc n) a (x ∷ s) [] b c h k u = let z : ⊥ = omega arith in absurd z
high_less (suc n) a (x ∷ s) (y ∷ t) b c h k u =
    go (at_or_under x y) (at_or_under y x) (high_less n (a * 256 + x) s t (bytes_rest x s b) (bytes_rest y t c)
    (omega arith) (omega arith))
  where
    go : (x ≤ y) ⊎ (y < x) → (y ≤ x) ⊎ (x < y) → (high_first n (a * 256 + x) s < high_first n (a * 256 + x) t
        → smaller s t ≡ true) → ltb x y || (eqb x y && smaller s t) ≡ true
    go v (inr w) ih = rw (lt-ltb x y w)
    go (inr v) (inl w) ih = let z : ⊥ =
        omega (arith, high_keeps n (a * 256 + y) (a * 256 + x) t s (bytes_rest y t c) (omega arith)) in absurd z
    go (inl v) (inl w) ih =
        let e : x ≡ y = omega arith in
        let f : high_first n (a * 256 + x) s < high_first n (a * 256 + x) t =
        rw (ap (λ (v : ℕ). a * 256 + v) (sym e)) at u in
        rw (le-ltb x y w, eq-eqb x y e, ih f)

high_same : (n a : ℕ) (s t : List ℕ) → Bytes s → Bytes t → n ≤ length s → n ≤ length t
    → high_first n a s ≡ high_first n a t → take n s ≡ take n t
high_same zero a s t b c h k u = refl
high_same (suc n) a [] t b c h k u = let z : ⊥ = omega arith in absurd z
high_same (suc n) a (x ∷ s) [] b c h k u = let z : ⊥ = omega arith in absurd z
high_same (suc n) a (x ∷ s) (y ∷ t) b c h k u =
    go (at_or_under x y) (at_or_under y x) (high_same n (a * 256 + x) s t (bytes_rest x s b) (bytes_rest y t c)
    (omega arith) (omega arith))
  where
    go : (x ≤ y) ⊎ (y < x) → (y ≤ x) ⊎ (x < y) → (high_first n (a * 256 + x) s ≡ high_first n (a * 256 + x) t
        → take n s ≡ take n t) → take (suc n) (x ∷ s) ≡ take (suc n) (y ∷ t)
    go (inr v) w ih = let z : ⊥ = omega (
      arith,
      high_keeps n (a * 256 + y) (a * 256 + x) t s (bytes_rest y t c) (omega arith),
    ) in absurd z
    go (inl v) (inr w) ih = let z : ⊥ =
        omega (arith, high_keeps n (a * 256 + x) (a * 256 + y) s t (bytes_rest x s b) (omega arith)) in absurd z
    go (inl v) (inl w) ih =
        let e : x ≡ y = omega arith in
        let f : high_first n (a * 256 + x) s ≡ high_first n (a * 256 + x) t =
        u ∙ ap (λ (v : ℕ). high_first n (a * 256 + v) t) (sym e) in
        rw (e, ih f)

-- what two texts share, they share of its first bytes
shared_less : (p q : Text) (k m : ℕ) → k ≤ m → Shared p q m → Shared p q k
shared_less p q k m h s =
    record {
      left = omega (arith, s.left);
      right = omega (arith, s.right);
      same = sym (take-take k m p h) ∙ ap (take k) s.same ∙ take-take k m q h;
    }

-- behind what two texts share
module _ (p q : Text) (i : ℕ) (s : Shared p q i) (h : i + 8 ≤ length p) (k : i + 8 ≤ length q) (b : Bytes p)
    (c : Bytes q) where
  b' : Bytes (drop i p)
  b' n = omega (arith, get_or-drop i p n 0, b (i + n))

  c' : Bytes (drop i q)
  c' n = omega (arith, get_or-drop i q n 0, c (i + n))

  h' : 8 ≤ length (drop i p)
  h' = omega (arith, length-drop i p)

  k' : 8 ≤ length (drop i q)
  k' = omega (arith, length-drop i q)

  eight_less : high_first 8 0 (drop i p) < high_first 8 0 (drop i q) → smaller p q ≡ true
  eight_less u = sym (smaller_shared i p q s.same s.left s.right) ∙ high_less 8 0 (drop i p) (drop i q) b' c' h' k' u

  eight_same : high_first 8 0 (drop i p) ≡ high_first 8 0 (drop i q) → Shared p q (i + 8)
  eight_same u = record {
    left = h;
    right = k;
    same =
        rw (take-add i 8 p, take-add i 8 q, s.same, high_same 8 0 (drop i p) (drop i q) b' c' h' k' u);
  }

  small : (t : List ℕ) (j : ℕ) → Bytes t → number32 (drop j t) < 4294967296
  small t j d = omega (arith, number_at t j, d j, d (j + 1), d (j + 2), d (j + 3))

  low_same : number32 (drop i p) + 4294967296 * number32 (drop (i + 4) p) ≡ number32 (drop i q) + 4294967296 *
      number32 (drop (i + 4) q) → Shared p q (i + 8)
  low_same u =
      let x : number32 (drop i p) ≡ number32 (drop i q) = omega (arith, u, small p i b, small q i c) in
      let y : number32 (drop (i + 4) p) ≡ number32 (drop (i + 4) q) = omega (arith, u, x) in
      let m : Shared p q (i + 4) = shared_next p q i (omega arith) (omega arith) b c x s in
      let n : Shared p q (i + 4 + 4) = shared_next p q (i + 4) (omega arith) (omega arith) b c y m in
      let z : i + 4 + 4 ≡ i + 8 = omega arith in
      rw z at n

-- a text of 32 bytes or more beside the first words of another: a window is reached by what both share of the windows
-- before it
module _ (p q : Text) (w : Words) (o : WordsOf q w) (h : 32 ≤ length p) (b : Bytes p) where
  pub by_first : high_first 8 0 (drop 0 p) < w.first → smaller p q ≡ true
  by_first u =
      let n : 0 + 8 ≤ length q = o.first.1 (omega arith) in
      eight_less p q 0 (shared_start p q) (omega arith) n b o.bytes (omega (arith, o.first.0 n))

  module _ (e : number32 (drop 0 p) + 4294967296 * number32 (drop (0 + 4) p) ≡ w.start) where
    to_second : w.at8 + 8 ≤ length q → Shared p q w.at8
    to_second n =
        let s : Shared p q (0 + 8) = low_same p q 0 (shared_start p q) (omega arith) (omega arith) b o.bytes (e
        ∙ o.is_start (omega arith)) in
        shared_less p q w.at8 (0 + 8) (omega (arith, w.windows.low8)) s

    pub by_second : high_first 8 0 (drop w.at8 p) < w.second → smaller p q ≡ true
    by_second u =
        let n : w.at8 + 8 ≤ length q = o.second.1 (omega arith) in
        eight_less p q w.at8 (to_second n) (omega (arith, w.windows.low8)) n b o.bytes (omega (arith, o.second.0 n))

    module _ (f : number32 (drop w.at8 p) + 4294967296 * number32 (drop (w.at8 + 4) p) ≡ w.next) where
      to_third : w.at16 + 8 ≤ length q → Shared p q w.at16
      to_third n =
          let m : w.at8 + 8 ≤ length q = omega (arith, w.windows.high16) in
          let s : Shared p q (w.at8 + 8) =
          low_same p q w.at8 (to_second m) (omega (arith, w.windows.low8)) m b o.bytes (f ∙ o.is_next m) in
          shared_less p q w.at16 (w.at8 + 8) w.windows.low16 s

      pub by_third : high_first 8 0 (drop w.at16 p) < w.third → smaller p q ≡ true
      by_third u =
          let n : w.at16 + 8 ≤ length q = o.third.1 (omega arith) in
          eight_less p q w.at16 (to_third n) (omega (arith, w.windows.low8, w.windows.low16)) n b o.bytes
          (omega (arith, o.third.0 n))

      pub by_fourth : high_first 8 0 (drop w.at16 p) ≡ w.third → high_first 8 0 (drop w.at24 p) < w.fourth
          → smaller p q ≡ true
      by_fourth g u =
          let n : w.at24 + 8 ≤ length q = o.fourth.1 (omega arith) in
          let m : w.at16 + 8 ≤ length q = omega (arith, w.windows.high24) in
          let s : Shared p q (w.at16 + 8) =
          eight_same p q w.at16 (to_third m) (omega (arith, w.windows.low8, w.windows.low16)) m b o.bytes (g
          ∙ o.third.0 m) in
          eight_less p q w.at24 (shared_less p q w.at24 (w.at16 + 8) w.windows.low24 s) (omega (
            arith,
            w.windows.low8,
            w.windows.low16,
            w.windows.low24,
          )) n b o.bytes (omega (arith, o.fourth.0 n))
