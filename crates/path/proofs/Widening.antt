-- Loops that write a text behind a path byte by byte: stars replaced, and each byte as a character without the escapes.
use mathlib.Core.Path.{◌≡◌, refl, sym, ◌∙◌, ap}
use Prim.Native.Nat.{ℕ, ◌+◌, ◌/◌, ◌%◌, ◌≤◌, ◌<◌}
use mathlib.Core.Bool.{Bool, true, false, ◌&&◌}
use mathlib.Core.List.{List, [], ◌∷◌, ◌++◌, flat_map, append_assoc, append-nil}
use native.Mathlib.Omega.{arith}
use borrow.Author.Tests.{lt-ltb, le-ltb, eq-eqb, ne_eqb, eqb-true, eqb-false, leb-true, leb-false}
use lib.Dec.{eqb, leb, ltb}
use lib.ListN.{length, drop, take, get_or, length-append, length-take, drop_of_length-le}
use Rattle.std.specs.Prelude.{if◌then◌else◌}
use Rattle.definition.specs.Text.{text, star, hash, starts_with, replace, trail, utf8}
use Rattle.laws.specs.TextLaws.{starts_with_length}
use Rattle.laws.specs.TextSteps.{drop_next}
use Rattle.definition.specs.Path.{Built, built, too_long, and_path, limited, add_extension}
use Rattle.laws.specs.PathLaws.{limited_fits, limited_append}
use Rattle.definition.specs.Specifier.{unescape}
use Rattle.path.specs.Meaning.{path_at}
use Rattle.path.proofs.Steps.{at_fits, at_long}

-- a text put behind a path, and what is left to write
pub grow : (x y : Built) (u r : List ℕ) → y ≡ and_path x (λ p. add_extension p u)
    → and_path y (λ p. limited (p ++ r)) ≡ and_path x (λ p. limited (p ++ (u ++ r)))
unfolding add_extension
grow (built p) y u r e = rw e (limited_append (p ++ u) r ∙ ap limited (append_assoc p u r))
grow too_long y u r e = rw e

-- nothing is left
pub grown : (b : List ℕ) (n : ℕ) → path_at b n ≡ and_path (path_at b n) (λ p. limited (p ++ []))
grown b n = go (leb n 2048) refl
  where
    go : (u : Bool) → leb n 2048 ≡ u → path_at b n ≡ and_path (path_at b n) (λ p. limited (p ++ []))
    go true e = rw (at_fits b n (leb-true _ _ e), append-nil)
        (sym (limited_fits (take n b) (let k = leb-true n 2048 e in omega (arith, length-take n b))))
    go false e = rw (at_long b n (leb-false _ _ e))

-- a star, and any other byte
module _ (p t : List ℕ) (i : ℕ) (h : i < length t) where
  pub replace_star : get_or t i 0 ≡ star → replace star p (drop i t) ≡ p ++ replace star p (drop (i + 1) t)
  unfolding replace
  replace_star e = rw (drop_next t i 0 h, eq-eqb (get_or t i 0) star e)

  pub replace_other : (get_or t i 0 ≡ star → ⊥)
      → replace star p (drop i t) ≡ (get_or t i 0 ∷ []) ++ replace star p (drop (i + 1) t)
  unfolding replace
  replace_other n = rw (drop_next t i 0 h, ne_eqb (get_or t i 0) star n)

pub replace_end : (p t : List ℕ) (i : ℕ) → length t ≤ i → replace star p (drop i t) ≡ []
unfolding replace
replace_end p t i h = rw (drop_of_length-le t h)

-- the character of a byte
pub narrow : (x : ℕ) → x < 128 → utf8 x ≡ x ∷ []
unfolding utf8
narrow x h = rw (lt-ltb _ _ h)

pub wide : (x : ℕ) → 128 ≤ x → x < 256 → utf8 x ≡ (192 + x / 64) ∷ (128 + x % 64) ∷ []
unfolding utf8 trail
wide x h k = let l : x < 2048 = omega arith in rw (le-ltb _ _ h, lt-ltb _ _ l)

-- the text of what is left
abbrev pub widened : List ℕ → List ℕ
widened s = flat_map utf8 (unescape s)

-- byte 0 before "#" is left out
abbrev pub escape : List ℕ
escape = 0 ∷ hash ∷ []

escape_is : (b : ℕ) (t : List ℕ) → starts_with escape (b ∷ t) ≡ eqb b 0 && starts_with (text "#") t
unfolding starts_with
escape_is b t = go (eqb b 0) refl
  where
    go : (u : Bool) → eqb b 0 ≡ u → eqb 0 b && starts_with (text "#") t ≡ u && starts_with (text "#") t
    go true e = rw (eq-eqb 0 b (sym (eqb-true b 0 e)))
    go false e = rw (ne_eqb 0 b (λ z. eqb-false b 0 e (sym z)))

escape_skipped : (b : ℕ) (t : List ℕ) → starts_with escape (b ∷ t) ≡ true → widened (b ∷ t) ≡ widened t
unfolding unescape
escape_skipped b t e = rw (← escape_is b t, e)

byte_kept : (b : ℕ) (t : List ℕ) → starts_with escape (b ∷ t) ≡ false → widened (b ∷ t) ≡ utf8 b ++ widened t
unfolding unescape flat_map
byte_kept b t e = rw (← escape_is b t, e)

module _ (s : List ℕ) (i : ℕ) (h : i < length s) where
  pub widened_skip : starts_with escape (drop i s) ≡ true → widened (drop i s) ≡ widened (drop (i + 1) s)
  widened_skip e = let d = drop_next s i 0 h in rw d (escape_skipped _ _ (rw d at e))

  pub widened_on : starts_with escape (drop i s) ≡ false
      → widened (drop i s) ≡ utf8 (get_or s i 0) ++ widened (drop (i + 1) s)
  widened_on e = let d = drop_next s i 0 h in rw d (byte_kept _ _ (rw d at e))

pub widened_end : (s : List ℕ) (i : ℕ) → length s ≤ i → widened (drop i s) ≡ []
unfolding unescape flat_map
widened_end s i h = rw (drop_of_length-le s h)

-- a text that is not empty is not empty once it is widened
utf8_some : (b : ℕ) → 0 < length (utf8 b)
unfolding utf8
utf8_some b = go (ltb b 128) (ltb b 2048) (ltb b 65536)
  where
    go : (x y z : Bool)
        → 0 < length
        (if x then b ∷ [] else if y then (192 + b / 64) ∷ trail b ∷ []
        else if z then (224 + b / 4096) ∷ trail (b / 64) ∷ trail b ∷ []
        else (240 + b / 262144) ∷ trail (b / 4096) ∷ trail (b / 64) ∷ trail b ∷ [])
    go true y z = omega arith
    go false true z = omega arith
    go false false true = omega arith
    go false false false = omega arith

pub widened_some : (s : List ℕ) → 0 < length s → 0 < length (widened s)
widened_some [] h = let z : ⊥ = omega arith in absurd z
widened_some (b ∷ s) h = go (starts_with escape (b ∷ s)) refl (widened_some s)
  where
    go : (t : Bool) → starts_with escape (b ∷ s) ≡ t → (0 < length s → 0 < length (widened s))
        → 0 < length (widened (b ∷ s))
    go true e ih =
        let l = starts_with_length escape (b ∷ s) e in
        rw (escape_skipped b s e) (ih (omega arith))
    go false e ih = rw (byte_kept b s e) (omega (arith, utf8_some b, length-append (utf8 b) (widened s)))
