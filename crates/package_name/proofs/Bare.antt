-- `is_bare` by its first part, up to a slash: that is no empty one, "." or "..".
use mathlib.Core.Path.{◌≡◌, refl, sym, ◌∙◌}
use Prim.Native.Nat.{ℕ, suc, ◌+◌}
use mathlib.Core.Bool.{Bool, true, false, not, ◌&&◌}
use mathlib.Core.List.{List, [], ◌∷◌}
use native.Mathlib.Omega.{arith}
use borrow.Author.Tests.{eq-eqb, eqb-true, ne_eqb, eqb-false}
use lib.Dec.{eqb}
use lib.ListN.{length, drop, take}
use Rattle.std.specs.Prelude.{if◌then◌else◌}
use Rattle.definition.specs.Text.{text, slash, equal, starts_with, before}
use Rattle.definition.specs.Specifier.{is_bare}
use Rattle.laws.specs.SpecifierLaws.{before_take, bare_bytes, bare}

-- the first part is empty where the text is, or begins with a slash
first_empty : (s : List ℕ) → not (eqb (length (before slash s)) 0) ≡ not (equal s []) && not (starts_with (text "/") s)
unfolding before equal starts_with
first_empty [] = refl
first_empty (b ∷ s) = go (eqb b slash) refl
  where
    go : (t : Bool) → eqb b slash ≡ t
        → not (eqb (length (if t then [] else b ∷ before slash s)) 0) ≡ not (eqb slash b && true)
    go true h = rw (eq-eqb slash b (sym (eqb-true b slash h)))
    go false h = rw
        (ne_eqb slash b (λ e. eqb-false b slash h (sym e)), ne_eqb (suc (length (before slash s))) 0 (λ e. omega arith))

pub bare_first : (s : List ℕ) (e : ℕ) → e ≡ 0 + length (before slash (drop 0 s))
    → is_bare s ≡ not (eqb (length (take e s)) 0) && not (starts_with (text "#") s) && not (equal (take e s) (text "."))
    && not (equal (take e s) (text ".."))
unfolding bare_bytes
bare_first s e at =
    let k : e ≡ length (before slash s) = omega arith in
    bare s ∙ rw (k, ← before_take slash s, first_empty s)
