-- The subpath behind its ".", and the tests on what is left behind a name. Assumes nothing.
use mathlib.Core.Path.{◌≡◌, refl, sym, ◌∙◌, ap}
use Prim.Native.Nat.{ℕ, suc, ◌+◌, ◌-◌}
use native.Mathlib.Omega.{arith}
use mathlib.Core.Bool.{Bool, true, false, ◌&&◌, ◌||◌}
use mathlib.Core.List.{List, [], ◌∷◌, ◌++◌}
use borrow.Author.Tests.{eq-eqb, ne_eqb, eqb-true, eqb-false}
use lib.Dec.{eqb}
use Rattle.std.specs.Prelude.{nat_eq}
use Rattle.std.specs.Bool.{then_some}
use Rattle.package_name.specs.Meaning.{tail_of}
use Rattle.std.specs.Cmp.Lexicographic.{pointwise}
use lib.ListN.{length, drop, take}
use lib.Seq.{drop-nil, take-nil}
use Rattle.definition.specs.Text.{text, equal, starts_with, overwrite}
use Rattle.definition.specs.Specifier.{dot_subpath, strip_package_name}

-- `dot_subpath`
pub dotted : (s : List ℕ) → starts_with (text ".") s ≡ true → dot_subpath s ≡ s
unfolding dot_subpath
dotted s h = rw h

pub undotted : (s : List ℕ) → starts_with (text ".") s ≡ false → dot_subpath s ≡ 46 ∷ s
unfolding dot_subpath
undotted s h = rw h

-- a byte put at the front of a buffer, and then a text behind it
front : (b : ℕ) (s : List ℕ) (x : ℕ) (w : List ℕ) → overwrite 0 (b ∷ s) (x ∷ w) ≡ b ∷ (take (length w) s ++ drop (length s) w)
unfolding overwrite
front b s x w =
    let m : suc (length w) - 0 ≡ suc (length w) = omega arith in
    let n : 0 + suc (length s) ≡ suc (length s) = omega arith in
    rw (m, n)

behind : (b : ℕ) (s w : List ℕ) → overwrite 1 s (b ∷ w) ≡ b ∷ (take (length w) s ++ drop (length s) w)
unfolding overwrite
behind b s w =
    let m : suc (length w) - 1 ≡ length w = omega arith in
    let n : 1 + length s ≡ suc (length s) = omega arith in
    rw (m, n)

pub overwrite_front : (b : ℕ) (s w : List ℕ) → overwrite 1 s (overwrite 0 (b ∷ []) w) ≡ overwrite 0 (b ∷ s) w
unfolding overwrite
overwrite_front b s [] = drop-nil (1 + length s) ∙ sym (drop-nil (0 + suc (length s)))
overwrite_front b s (x ∷ w) = ap (overwrite 1 s) (front b [] x w ∙ ap (λ l. b ∷ (l ++ w)) (take-nil (length w))) ∙ behind b s w ∙ sym (front b s x w)

-- `strip_package_name`: the name stands in front
pub prefix_is : (s p : List ℕ) → pointwise nat_eq (take (length p) s) p ≡ starts_with p s
unfolding starts_with
prefix_is s [] = refl
prefix_is [] (c ∷ p) = refl
prefix_is (b ∷ s) (c ∷ p) = go (eqb b c) refl (prefix_is s p)
  where
    go : (t : Bool) → eqb b c ≡ t → pointwise nat_eq (take (length p) s) p ≡ starts_with p s
        → t && pointwise nat_eq (take (length p) s) p ≡ eqb c b && starts_with p s
    go true e r = rw (eq-eqb c b (sym (eqb-true b c e)), r)
    go false e r = rw (ne_eqb c b (λ z. eqb-false b c e (sym z)))

-- and behind it stands what ends a name, or something else
pub strip_is : (s name tail : List ℕ) (t : Bool) → starts_with name s ≡ true → tail ≡ drop (length name) s
    → t ≡ equal tail [] || starts_with (text "/") tail || starts_with (text "\\") tail
    → tail_of s (then_some t (length name)) ≡ strip_package_name s name
unfolding strip_package_name
strip_is s name tail true p e h = rw (p, ← e, ← h)
strip_is s name tail false p e h = rw (p, ← e, ← h)
