-- The pass that gives each length and each state its own number, after i of its turns.
use mathlib.Core.Path.{◌≡◌}
use mathlib.Core.List.{List, [], ◌∷◌, ◌++◌, map, map-append, append_assoc}
use Prim.Native.Nat.{ℕ, suc, ◌+◌, ◌*◌, ◌/◌, ◌%◌, ◌≤◌, ◌<◌}
use native.Mathlib.Omega.{arith}
use native.Mathlib.Numerals.{add-one}
use lib.ListN.{length, take, drop, get_or, set, length-append, length-take, length-drop, length-map, drop_of_length-le, take-append-drop}
use lib.Seq.{take-suc, drop-cons, set_at, get_or_at, take_all, drop-drop}
use Rattle.output.specs.Meaning.{spread}

abbrev low : ℕ → ℕ
low n = n % 65536

abbrev high : ℕ → ℕ
high n = n / 65536

abbrev pub packed_in : ℕ → List ℕ → List ℕ
packed_in count xs = take count (drop 2 xs)

abbrev pub packed_at : ℕ → List ℕ → ℕ → ℕ
packed_at count xs i = get_or (packed_in count xs) i 0

-- the first i have been spread
unfoldable pub spread_to : ℕ → ℕ → List ℕ → List ℕ
spread_to i count xs =
    let ps = packed_in count xs in
    take 2 xs ++ (map low (take i ps) ++ (drop i ps ++ (map high (take i ps) ++ drop (2 + count + i) xs)))

two_sets : (a l d h e : List ℕ) (p q lo hi m n : ℕ) → length a + length l ≡ m
    → length a + length l + suc (length d) + length h ≡ n
    → set (set (a ++ (l ++ (p ∷ (d ++ (h ++ (q ∷ e)))))) n hi) m lo
    ≡ a ++ ((l ++ (lo ∷ [])) ++ (d ++ ((h ++ (hi ∷ [])) ++ e)))
two_sets a l d h e p q lo hi m n x y =
    let one : set (a ++ (l ++ (p ∷ (d ++ (h ++ (q ∷ e)))))) n hi ≡ a ++ (l ++ (p ∷ (d ++ (h ++ (hi ∷ e))))) =
    let w : a ++ (l ++ (p ∷ (d ++ (h ++ (q ∷ e))))) ≡ (a ++ (l ++ (p ∷ (d ++ h)))) ++ (q ∷ e) = simp append_assoc in
    let k : length (a ++ (l ++ (p ∷ (d ++ h)))) ≡ n = simp length-append (omega arith) in
    rw (w, set_at (a ++ (l ++ (p ∷ (d ++ h)))) q e hi n k) (simp append_assoc) in
    let w : a ++ (l ++ (p ∷ (d ++ (h ++ (hi ∷ e))))) ≡ (a ++ l) ++ (p ∷ (d ++ (h ++ (hi ∷ e)))) = simp append_assoc in
    let k : length (a ++ l) ≡ m = simp length-append (omega arith) in
    rw (one, w, set_at (a ++ l) p (d ++ (h ++ (hi ∷ e))) lo m k) (simp append_assoc)

module _ (count : ℕ) (xs : List ℕ) where
  pub spread_start : spread_to 0 count xs ≡ xs
  unfolding spread_to
  spread_start =
      let z : 2 + count + 0 ≡ 2 + count = omega arith in
      rw (z, ← drop-drop count 2 xs, take-append-drop count (drop 2 xs)) (take-append-drop 2 xs)

  module _ (room : 2 + 2 * count ≤ length xs) where
    length_packed : length (packed_in count xs) ≡ count
    length_packed = simp (length-take, length-drop) (omega arith)

    length_two : length (take 2 xs) ≡ 2
    length_two = simp length-take (omega arith)

    pub spread_end : spread_to count count xs ≡ spread count xs
    unfolding spread_to spread
    spread_end =
        let z : 2 + count + count ≡ 2 + 2 * count = omega arith in
        rw (
          z,
          take_all count (packed_in count xs) (omega (arith, length_packed)),
          drop_of_length-le (packed_in count xs) {i = count} (omega (arith, length_packed)),
        )

    module _ (i : ℕ) (more : i < count) where
      length_front : length (take i (packed_in count xs)) ≡ i
      length_front = omega (arith, length_packed, length-take i (packed_in count xs))

      apart : spread_to i count xs
          ≡ take 2 xs ++ (map low (take i (packed_in count xs)) ++ (packed_at count xs i
          ∷ (drop (suc i) (packed_in count xs) ++ (map high (take i (packed_in count xs))
          ++ (get_or xs (2 + count + i) 0 ∷ drop (suc (2 + count + i)) xs)))))
      unfolding spread_to
      apart =
          rw (
            drop-cons (packed_in count xs) i 0 (omega (arith, length_packed)),
            drop-cons xs (2 + count + i) 0 (omega arith),
          )

      pub spread_here : get_or (spread_to i count xs) (2 + i) 0 ≡ (packed_at count xs i)
      spread_here =
          let n = length_front in
          let k = length_two in
          let m : length (take 2 xs ++ map low (take i (packed_in count xs))) ≡ 2 + i =
          simp (length-append, length-map) (omega arith) in
          rw (apart, ← append_assoc)
          (get_or_at (take 2 xs ++ map low (take i (packed_in count xs))) (packed_at count xs i) _ 0 (2 + i) m)

      pub spread_step :
          set (set (spread_to i count xs) (2 + count + i) (packed_at count xs i / 65536))
          (2 + i) (packed_at count xs i % 65536) ≡ spread_to (i + 1) count xs
      unfolding spread_to
      spread_step =
          let n = length_front in
          let k = length_two in
          let m = length_packed in
          let f : 2 + count + suc i ≡ suc (2 + count + i) = omega arith in
          rw (apart, add-one i, f, take-suc (packed_in count xs) i 0 (omega arith), map-append, map-append)
          (two_sets (take 2 xs) (map low (take i (packed_in count xs))) (drop (suc i) (packed_in count xs))
          (map high (take i (packed_in count xs))) (drop (suc (2 + count + i)) xs) (packed_at count xs i)
          (get_or xs (2 + count + i) 0) (low (packed_at count xs i)) (high (packed_at count xs i)) (2 + i)
          (2 + count + i) (simp length-map (omega arith)) (simp (length-map, length-drop) (omega arith)))
