-- A path that is larger than the one before it, and where it parts from it.
use mathlib.Core.Path.{◌≡◌, refl, sym, ◌∙◌}
use mathlib.Core.Bool.{Bool, true, false, ◌||◌, false≢true}
use mathlib.Core.List.{[], ◌∷◌}
use mathlib.Core.Logic.{◌⊎◌, inl, inr, ⊎_elim}
use Prim.Native.Nat.{ℕ, suc, ◌≤◌, ◌<◌}
use native.Mathlib.Omega.{arith}
use borrow.Author.Tests.{eqb-true, ltb-true, le-ltb}
use lib.Dec.{eqb, ltb}
use lib.ListN.{length, take, get_or}
use Rattle.std.specs.Prelude.{if◌then◌else◌, Option, Some, None}
use Rattle.definition.specs.Text.{Text, smaller}
use Rattle.laws.specs.ListingOrder.{Rise, rise_short, rise_here}
use Rattle.listing.specs.Meaning.{shared_length, parting_of}

-- both begin with n bytes, and then q has a byte that p has not, or a larger one
record Apart (p q : Text) (n : ℕ) : Type 0 where
  left : n ≤ length p
  right : n < length q
  same : take n p ≡ take n q
  ends : (length p ≤ n) ⊎ ((n < length p) × (get_or p n 0 < get_or q n 0))

apart : (p q : Text) → smaller p q ≡ true → Apart p q (shared_length p q)
unfolding smaller shared_length
apart [] [] h = absurd (false≢true h)
apart [] (y ∷ q) h = record { left = omega arith; right = omega arith; same = refl; ends = inl (omega arith) }
apart (x ∷ p) [] h = absurd (false≢true h)
apart (x ∷ p) (y ∷ q) h = go (eqb x y) refl (apart p q)
  where
    go : (b : Bool) → eqb x y ≡ b → (smaller p q ≡ true → Apart p q (shared_length p q))
        → Apart (x ∷ p) (y ∷ q) (if b then suc (shared_length p q) else 0)
    go true e f =
        let z : x ≡ y = eqb-true x y e in
        let l : ltb x y ≡ false = le-ltb x y (omega arith) in
        let a = f (rw (l, e) at h) in
        record {
          left = omega (arith, a.left);
          right = omega (arith, a.right);
          same = cc;
          ends = ⊎_elim (λ n. inl (omega arith)) (λ n. inr (omega (arith, n.0), n.1)) a.ends;
        }
    go false e f = record {
      left = omega arith;
      right = omega arith;
      same = refl;
      ends =
          inr (omega arith, ltb-true x y (below (ltb x y) (rw e at h)));
    }
      where
        below : (b : Bool) → b || false ≡ true → b ≡ true
        below true u = refl
        below false u = u

rises : (p q : Text) → smaller p q ≡ true → Rise p q (shared_length p q)
rises p q h = let a = apart p q h in
    ⊎_elim (λ n. rise_short p q _ a.same a.left a.right n) (λ n. rise_here p q _ a.same a.left a.right n.0 n.1) a.ends

pub risen : {p q : Text} {t : Option ℕ} {j : ℕ} → t ≡ parting_of p q → t ≡ Some j → Rise p q j
unfolding parting_of
risen {p} {q} {t} {j} h e = go (smaller p q) refl
  where
    go : (b : Bool) → smaller p q ≡ b → Rise p q j
    go true s =
        let z : Some (shared_length p q) ≡ Some j = rw s at (sym h ∙ e) in
        let n : shared_length p q ≡ j = cc in
        rw n at (rises p q s)
    go false s = let z : None ≡ Some j = rw s at (sym h ∙ e) in cc

pub not_risen : (p q : Text) → parting_of p q ≡ None → smaller p q ≡ false
unfolding parting_of
not_risen p q e = go (smaller p q) refl
  where
    go : (b : Bool) → smaller p q ≡ b → smaller p q ≡ false
    go true s = let z : Some (shared_length p q) ≡ None = rw s at e in cc
    go false s = s
