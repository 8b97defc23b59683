-- One step of the pass, from the path p with the marks m to the path q, whose last "/" is at s: what each way out of it
-- shows.
use mathlib.Core.Path.{◌≡◌, refl, sym, ◌∙◌, ap}
use mathlib.Core.Bool.{Bool, true, false, true≢false, ◌&&◌, not}
use mathlib.Core.List.{List, ◌∷◌}
use Prim.Native.Nat.{ℕ, ◌+◌, ◌-◌, ◌≤◌, ◌<◌, max}
use native.Mathlib.Omega.{arith}
use lib.ListN.{length, drop, get_or, length-drop}
use lib.Seq.{take_all}
use mathlib.Core.Logic.{◌⊎◌, inl, inr}
use lib.Dec.{eqb}
use borrow.Author.Tests.{eqb-true, eqb-false}
use Rattle.std.specs.Prelude.{Option, Some, None}
use Rattle.definition.specs.Text.{Text, slash, before_last, contains, is_utf8}
use Rattle.definition.specs.Listing.{Row, is_path, is_component}
use Rattle.laws.specs.PathSteps.{LastAt, last_missing, last_there}
use Rattle.laws.specs.TextLaws.{and_true}
use Rattle.laws.specs.ListingNameLaws.{is_name, component_empty, path_no_slash, path_two_slashes, Cut, cut_of}
use Rattle.laws.specs.ListingSteps.{row, at_or_under}
use Rattle.laws.specs.ListingOrder.{Rise, Going, Remarked, mark_of, going_down, going_no_path, going_apart}
use Rattle.laws.specs.ListingOrder.{going_unmarked, going_too_deep, name_is_lem, going_next}
use Rattle.listing.specs.Meaning.{parting_of}
use Rattle.listing_rules.specs.Meaning.{slash_before_name}
use Rattle.listing_check.proofs.Rises.{risen, not_risen}
use Rattle.listing_check.specs.Meaning.{Stepped}

module _ (p q : Text) (d : Bool) (m : List ℕ) where
  pub down : {t : Option ℕ} → t ≡ parting_of p q → t ≡ None → Stepped p q d m m false
  down h e rs tail rest c f g = going_down rs p m q d c rest tail g f (not_risen p q (sym h ∙ e))

  module _ (s : ℕ) (l : s ≡ length (before_last slash q)) where
    pub no_slash : s ≡ length q → Stepped p q d m m false
    no_slash e rs tail rest c f g =
        going_no_path rs p m q d c rest tail g f (path_no_slash q (last_missing slash q (sym l ∙ e)))

    module _ (n : s ≡ length q → ⊥) where
      last : LastAt slash q s
      last = last_there slash q s l n

      pub two_slashes : s ≡ 1 → Stepped p q d m m false
      two_slashes e rs tail rest c f g =
          going_no_path rs p m q d c rest tail g f (path_two_slashes q (omega (arith, last.inside)) (rw e at last.here))

      -- the parent has k bytes, and q parts from p at j
      module _ (u : s ≡ 1 → ⊥) (k : ℕ) (z : k ≡ max s 1) (j : ℕ) (r : Rise p q j) where
        pub apart : j < k → Stepped p q d m m false
        apart x rs tail rest c f g = going_apart rs p m q d c rest tail g f j r s k last u z x

        module _ (x : k ≤ j) where
          cut : Cut q s k
          cut = cut_of q s k last u z (omega (arith, r.below))

          pub unmarked : get_or m k 0 ≡ 0 → Stepped p q d m m false
          unmarked e rs tail rest c f g = going_unmarked rs p m q d c rest tail g f j r s k cut x e

          module _ (y : get_or m k 0 ≡ 0 → ⊥) where
            pub too_deep : 32 < get_or m k 0 → Stepped p q d m m false
            too_deep e rs tail rest c f g = going_too_deep rs p m q d c rest tail g f j r s k cut x y e

            module _ {b : Bool} (i : b ≡ is_name (drop (s + 1) q)) where
              path_is : (rs tail rest : List Row) (c : List ℕ) → rest ≡ row q d c ∷ tail → Going rs p rest m
                  → is_path q ≡ b
              path_is rs tail rest c f g = name_is_lem rs p m q d c rest tail g f j r s k cut x y
                  ∙ ap is_name (take_all (length q - (s + 1)) (drop (s + 1) q) (omega (arith, length-drop (s + 1) q)))
                  ∙ sym i

              pub no_name : b ≡ false → Stepped p q d m m false
              no_name e rs tail rest c f g = going_no_path rs p m q d c rest tail g f (path_is rs tail rest c f g ∙ e)

              pub onward : {m' : List ℕ} {v : ℕ} → b ≡ true → get_or m k 0 ≤ 32 → v ≡ mark_of d (get_or m k 0)
                  → Remarked j (length p) (length q) v m m' → Stepped p q d m m' true
              onward {m'} e a o w = (
                w.size,
                λ rs tail rest c f g. going_next rs p m q d c rest tail g f j r s k cut x y a
                    (path_is rs tail rest c f g ∙ e) m' (rw o at w),
              )

-- a name stands behind that "/", or behind none
pub named : (q : Text) {s : ℕ} → Some s ≡ slash_before_name q
    → (s ≡ length (before_last slash q)) × (is_name (drop (s + 1) q) ≡ true) × (s ≡ length q → ⊥)
unfolding slash_before_name is_name
named q {s} h = go (is_name (drop (length (before_last slash q) + 1) q)) refl
  where
    inside : is_name (drop (s + 1) q) ≡ true → s ≡ length q → ⊥
    inside n e =
        let c = drop (s + 1) q in
        let a = and_true (is_component c && is_utf8 c) (not (contains 0 c)) n in
        let b : is_component c ≡ true = (and_true (is_component c) (is_utf8 c) a.0).0 in
        true≢false (sym b ∙ component_empty c (omega (arith, length-drop (s + 1) q)))

    go : (b : Bool) → is_name (drop (length (before_last slash q) + 1) q) ≡ b
        → (s ≡ length (before_last slash q)) × (is_name (drop (s + 1) q) ≡ true) × (s ≡ length q → ⊥)
    go true e =
        let z : Some s ≡ Some (length (before_last slash q)) = rw e at h in
        let l : s ≡ length (before_last slash q) = cc in
        let n : is_name (drop (s + 1) q) ≡ true = rw l e in
        (l, n, inside n)
    go false e = let z : Some s ≡ None = rw e at h in cc

nameless : (q : Text) → None ≡ slash_before_name q → is_name (drop (length (before_last slash q) + 1) q) ≡ false
unfolding slash_before_name
nameless q h = go (is_name (drop (length (before_last slash q) + 1) q)) refl
  where
    go : (b : Bool) → is_name (drop (length (before_last slash q) + 1) q) ≡ b
        → is_name (drop (length (before_last slash q) + 1) q) ≡ false
    go true e = let z : None ≡ Some (length (before_last slash q)) = rw e at h in cc
    go false e = e

-- where none does, a rule is broken, whatever else is
pub unnamed : (p q : Text) (d : Bool) (m : List ℕ) → None ≡ slash_before_name q → Stepped p q d m m false
unnamed p q d m h = go (eqb s (length q)) refl (eqb s 1) refl (parting_of p q) refl
  where
    s : ℕ
    s = length (before_last slash q)

    k : ℕ
    k = max s 1

    go : (a : Bool) → eqb s (length q) ≡ a → (b : Bool) → eqb s 1 ≡ b → (t : Option ℕ) → t ≡ parting_of p q
        → Stepped p q d m m false
    go true e b f t g = no_slash p q d m s refl (eqb-true _ _ e)
    go false e true f t g = two_slashes p q d m s refl (eqb-false _ _ e) (eqb-true _ _ f)
    go false e false f None g = down p q d m g refl
    go false e false f (Some j) g = parted (at_or_under k j)
      where
        n : s ≡ length q → ⊥
        n = eqb-false _ _ e

        u : s ≡ 1 → ⊥
        u = eqb-false _ _ f

        r : Rise p q j
        r = risen g refl

        parted : (k ≤ j) ⊎ (j < k) → Stepped p q d m m false
        parted (inr x) = apart p q d m s refl n u k refl j r x
        parted (inl x) = marked (eqb (get_or m k 0) 0) refl (at_or_under (get_or m k 0) 32)
          where
            marked : (a : Bool) → eqb (get_or m k 0) 0 ≡ a → (get_or m k 0 ≤ 32) ⊎ (32 < get_or m k 0)
                → Stepped p q d m m false
            marked true z v = unmarked p q d m s refl n u k refl j r x (eqb-true _ _ z)
            marked false z (inr v) = too_deep p q d m s refl n u k refl j r x (eqb-false _ _ z) v
            marked false z (inl v) = no_name p q d m s refl n u k refl j r x (eqb-false _ _ z) (sym (nameless q h)) refl
