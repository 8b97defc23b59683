-- `Specifier::parse`: its parts from the places of the fragment and of the query. Assumes nothing.
use mathlib.Core.Path.{◌≡◌, refl, sym, ◌∙◌, ap}
use Prim.Native.Nat.{ℕ, ◌+◌, ◌<◌}
use mathlib.Core.Bool.{Bool, true, false, not, ◌&&◌}
use mathlib.Core.List.{List, [], ◌∷◌, flat_map}
use native.Mathlib.Omega.{arith}
use lib.Dec.{eqb}
use lib.ListN.{length, drop, take}
use Rattle.std.specs.Prelude.{if◌then◌else◌}
use Rattle.definition.specs.Text.{question, hash, contains_text, before, from}
use Rattle.definition.specs.Path.{limited}
use Rattle.definition.specs.Specifier.{parsed, empty_specifier, before_fragment, body, unescape, path_before, or_empty, parse_specifier}
use Rattle.laws.specs.SpecifierLaws.{before_take}
use Rattle.specifier.specs.Meaning.{parts, no_path, parts_of}
use Rattle.specifier.proofs.Fragment.{escape}
use Rattle.path.proofs.Widening.{widened, widened_some}

-- what stands before the fragment is a start of the specifier
fragment_take : (p : ℕ) (s : List ℕ) → before_fragment p s ≡ take (length (before_fragment p s)) s
unfolding before_fragment
fragment_take p [] = refl
fragment_take p (b ∷ s) = go (eqb b hash && not (eqb p 0)) (fragment_take b s)
  where
    go : (t : Bool) → before_fragment b s ≡ take (length (before_fragment b s)) s
        → (if t then [] else b ∷ before_fragment b s)
        ≡ take (length (if t then [] else b ∷ before_fragment b s)) (b ∷ s)
    go true ih = refl
    go false ih = ap (λ l. b ∷ l) ih

pub body_take : (s : List ℕ) → body s ≡ take (length (body s)) s
unfolding body
body_take [] = refl
body_take (b ∷ s) = ap (λ l. b ∷ l) (fragment_take b s)

or_empty_none : (p q f : List ℕ) → length p ≡ 0 → or_empty p q f ≡ empty_specifier
unfolding or_empty
or_empty_none [] q f h = refl
or_empty_none (b ∷ p) q f h = let z : ⊥ = omega arith in absurd z

or_empty_some : (p q f : List ℕ) → 0 < length p → or_empty p q f ≡ parsed p q f
unfolding or_empty
or_empty_some [] q f h = let z : ⊥ = omega arith in absurd z
or_empty_some (b ∷ p) q f h = refl

-- the text of a path that is, or is not, escaped is as empty as the path
path_none : (t : Bool) (s : List ℕ) → length s ≡ 0 → length (if t then widened s else s) ≡ 0
unfolding unescape flat_map
path_none true [] h = refl
path_none true (b ∷ s) h = absurd (let z : ⊥ = omega arith in z)
path_none false s h = h

path_some : (t : Bool) (s : List ℕ) → 0 < length s → 0 < length (if t then widened s else s)
path_some true s h = widened_some s h
path_some false s h = h

-- n bytes stand before the fragment, and q of them before the query
module _ (s b path query fragment : List ℕ) (n q : ℕ) (e : n ≡ length (body s)) (front : b ≡ take n s)
    (back : fragment ≡ drop n s)
    (at : q ≡ 0 + length (before question (drop 0 b))) (first : path ≡ take q b) (last : query ≡ drop q b) where
  whole : b ≡ body s
  whole = rw (front, e) (sym (body_take s))

  size : q ≡ length (before question (body s))
  size = at ∙ ap (λ l. 0 + length (before question l)) whole ∙ omega arith

  path_is : path ≡ before question (body s)
  path_is = rw (first, size, whole) (sym (before_take question (body s)))

  pub parsed_none : length path ≡ 0 → no_path ≡ parts_of (parse_specifier s)
  unfolding parse_specifier path_before
  parsed_none h = sym (ap parts_of (or_empty_none _ _ _ (path_none _ _ (rw path_is at h))))

  pub parsed_some : (t : Bool) → t ≡ contains_text escape (body s) → (length path ≡ 0 → ⊥)
      → parts (limited (if t then widened path else path)) query fragment ≡ parts_of (parse_specifier s)
  unfolding parse_specifier path_before from
  parsed_some t m h =
      let p = path_some t path (omega arith) in
      rw (back, e, last, size, whole, ← m, ← path_is) (sym (ap parts_of (or_empty_some _ _ _ p)))
