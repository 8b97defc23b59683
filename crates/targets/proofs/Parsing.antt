-- A string as a target, taken apart.
use mathlib.Core.Path.{◌≡◌, refl, ap}
use mathlib.Core.Bool.{Bool, true, false, ◌&&◌}
use mathlib.Core.List.{List, [], ◌∷◌, ◌++◌, flat_map, append_assoc}
use Prim.Native.Nat.{ℕ, zero, suc, ◌+◌, ◌*◌, ◌/◌, ◌<◌, ◌≤◌}
use native.Mathlib.Omega.{arith}
use lib.ListN.{length, get_or, length-append}
use lib.Dec.{eqb, ltb}
use borrow.Author.Tests.{lt-ltb}
use Rattle.std.specs.Prelude.{if◌then◌else◌, Err}
use Rattle.definition.specs.Text.{text, starts_with, utf8, trail}
use Rattle.definition.specs.Path.{limited}
use Rattle.definition.specs.Specifier.{Specifier, parsed, empty_specifier, unescape, parse_specifier}
use Rattle.definition.specs.Exports.{Request, with_query_fragment, invalid_target, string_target}
use Rattle.specifier.specs.declared.SpecifierError.{SpecifierError}
use Rattle.specifier.specs.declared.SpecifierError.TheVariants as error
use Rattle.specifier.specs.declared.Path.{Path}
use Rattle.specifier.specs.declared.Path.TheVariants.{Plain, Escaped}
use Rattle.specifier.specs.Meaning.{written, path_text, Parts, parts, no_path, parts_of, meant}
use Rattle.targets.specs.declared.Context.{Context}
use Rattle.targets.specs.declared.Outcome.TheVariants.{Empty, InvalidTarget}
use Rattle.targets.specs.Contexts.{context_of}
use Rattle.targets.specs.Answers.{outcome_in, resolved, path_target}
use Rattle.targets.proofs.Targets.{limited_same}

-- a path of bytes is at most twice as long as its specifier
abbrev pub Bytes : List ℕ → Type 0
Bytes s = (k : ℕ) → get_or s k 0 < 256

utf8_two : (b : ℕ) → b < 256 → length (utf8 b) ≤ 2
unfolding utf8
utf8_two b h = rw (lt-ltb b 2048 (omega arith)) (go (ltb b 128))
  where
    go : (t : Bool) → length (if t then b ∷ [] else (192 + b / 64) ∷ trail b ∷ []) ≤ 2
    go true = omega arith
    go false = omega arith

pub widened_size : (s : List ℕ) → Bytes s → length (flat_map utf8 (unescape s)) ≤ 2 * length s
unfolding unescape flat_map
widened_size [] h = omega arith
widened_size (b ∷ s) h = go (eqb b 0 && starts_with (text "#") s) (widened_size s (λ k. h (suc k)))
  where
    go : (t : Bool) → length (flat_map utf8 (unescape s)) ≤ 2 * length s
        → length (flat_map utf8 ((if t then [] else b ∷ []) ++ unescape s)) ≤ 2 * suc (length s)
    go true g = omega arith
    go false g = omega (arith, utf8_two b (h 0), length-append (utf8 b) (flat_map utf8 (unescape s)))

-- the path of a target without "./" in front
module _ (q : Request) (t : List ℕ) where
  pub path_invalid : starts_with (text "./") t ≡ false
      → outcome_in q.package_url q.key q.matched InvalidTarget t ≡ path_target q t
  unfolding invalid_target
  path_invalid h = rw h

pub error_is : (e : SpecifierError) (x : Parts) → meant (Err e) ≡ x → no_path ≡ x
unfolding meant
error_is error.Empty x h = h

-- a string whose specifier has no path, and one with the path t
module _ (s m : List ℕ) (q : Request) (c : Context) where
  pub string_empty : no_path ≡ parts_of (parse_specifier s)
      → resolved m c (outcome_in q.package_url q.key q.matched Empty s)
      ≡ string_target q (parse_specifier s) s (context_of m c)
  unfolding string_target
  string_empty e = go (parse_specifier s) e
    where
      go : (x : Specifier) → no_path ≡ parts_of x
          → resolved m c (outcome_in q.package_url q.key q.matched Empty s) ≡ string_target q x s (context_of m c)
      go (parsed p u v) e = cc
      go empty_specifier e = refl

  pub string_parsed : (t u v : List ℕ) (d : Context) → length t ≤ 2048
      → parts (limited t) u v ≡ parts_of (parse_specifier s)
      → context_of m d ≡ with_query_fragment (context_of m c) u v
      → resolved m d (path_target q t) ≡ string_target q (parse_specifier s) s (context_of m c)
  unfolding string_target
  string_parsed t u v d l e w = go (parse_specifier s) e
    where
      go : (x : Specifier) → parts (limited t) u v ≡ parts_of x
          → resolved m d (path_target q t) ≡ string_target q x s (context_of m c)
      go (parsed p x y) e =
          let f : limited p ≡ limited t = cc in
          let g : u ≡ x = cc in
          let h : v ≡ y = cc in
          rw (limited_same p t f l, ← g, ← h, w)
      go empty_specifier e = cc

-- the path that a string begins with is no longer, and of bytes as it is
module _ (a b c s : List ℕ) (e : a ++ b ++ c ≡ s) where
  pub front_short : length a ≤ length s
  front_short = omega (arith, ap length e, length-append (a ++ b) c, length-append a b)

  pub front_bytes : Bytes s → Bytes a
  front_bytes h = bytes_front a (b ++ c) (rw (← append_assoc a b c, e) h)
    where
      bytes_front : (a b : List ℕ) → Bytes (a ++ b) → Bytes a
      bytes_front [] b h k = omega arith
      bytes_front (x ∷ a) b h zero = h 0
      bytes_front (x ∷ a) b h (suc k) = bytes_front a b (λ i. h (suc i)) k

-- so its text is under the limit
pub path_short : (p : Path) (b c s : List ℕ) → written p ++ b ++ c ≡ s → Bytes s → length s ≤ 1024
    → length (path_text p) ≤ 2048
path_short (Plain t) b c s e h l = omega (arith, front_short t.now b c s e)
path_short (Escaped t) b c s e h l =
    omega (arith, front_short t.now b c s e, widened_size t.now (front_bytes t.now b c s e h))
