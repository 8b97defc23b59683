-- Facts that several proofs of this crate share.
use mathlib.Core.Path.{◌≡◌, refl}
use mathlib.Core.Bool.{Bool, true, false}
use mathlib.Core.List.{[], ◌∷◌, ◌++◌, append_assoc}
use Prim.Native.Nat.{ℕ, suc, ◌+◌, ◌≤◌, ◌<◌}
use native.Mathlib.Omega.{arith}
use borrow.Author.Tests.{ltb-true, ltb-false}
use lib.Dec.{ltb}
use lib.ListN.{length, set, length-append}
use Rattle.definition.specs.Text.{Text, overwrite}
use Rattle.laws.specs.TextSteps.{overwrite_here, overwrite_nil, overwrite_past}

-- two texts, one behind the other
pub overwrite_append : (at : ℕ) (a b d : Text)
    → overwrite (at + length a) b (overwrite at a d) ≡ overwrite at (a ++ b) d
overwrite_append at [] b d = let z : at + 0 ≡ at = omega arith in rw (z, overwrite_nil at d)
overwrite_append at (x ∷ a) b d = go (ltb at (length d)) refl (overwrite_append (suc at) a b (set d at x))
  where
    go : (t : Bool) → ltb at (length d) ≡ t
        → overwrite (suc at + length a) b (overwrite (suc at) a (set d at x)) ≡ overwrite (suc at) (a ++ b) (set d at x)
        → overwrite (at + suc (length a)) b (overwrite at (x ∷ a) d) ≡ overwrite at (x ∷ (a ++ b)) d
    go true e rest =
        let h : at < length d = ltb-true _ _ e in
        let z : at + suc (length a) ≡ suc at + length a = omega arith in
        rw (overwrite_here at x a d h, overwrite_here at x (a ++ b) d h, z) rest
    go false e rest =
        let h : length d ≤ at = ltb-false _ _ e in
        rw (overwrite_past at (x ∷ a) d h, overwrite_past at (x ∷ (a ++ b)) d h)
        (overwrite_past (at + suc (length a)) b d (omega arith))

-- three texts, one behind the other
pub overwrite_three : (a b c d : Text)
    → overwrite (length a + length b) c (overwrite (length a) b (overwrite 0 a d)) ≡ overwrite 0 (a ++ (b ++ c)) d
overwrite_three a b c d =
    let z : 0 + length a ≡ length a = omega arith in
    let two : overwrite (length a) b (overwrite 0 a d) ≡ overwrite 0 (a ++ b) d = rw z at (overwrite_append 0 a b d) in
    let k : 0 + length (a ++ b) ≡ length a + length b = omega (arith, length-append a b) in
    rw (two, ← append_assoc a b c) (rw k at (overwrite_append 0 (a ++ b) c d))
