-- A fold over a list does not depend on the list's order where its step commutes: for any kind of list.
use Rattle.std.specs.Prelude.{◌≡◌, ℕ, Bool, if◌then◌else◌}
use Rattle.std.proofs.Math.Path.{refl, ap}
use Rattle.std.proofs.Common.{◌∙◌, arith}
use Rattle.std.proofs.Math.Bool.{true, false}
use mathlib.Core.List.Permᴰ
use mathlib.Core.List.{List, [], ◌∷◌, Memᴰ, Permᴰ}
use Rattle.std.proofs.Math.Dec.{ltb}
use borrow.Author.Tests.{ltb-true, ltb-false, le-ltb}

-- a member of a list is one in every order
pub mem_perm : {A : Type 0} {x : A} {xs ys : List A} → Permᴰ xs ys → Memᴰ x xs → Memᴰ x ys
mem_perm Permᴰ.nil m = m
mem_perm (Permᴰ.cons e d) (Memᴰ.head p) = Memᴰ.head (p ∙ e)
mem_perm (Permᴰ.cons e d) (Memᴰ.tail m) = Memᴰ.tail (mem_perm d m)
mem_perm (Permᴰ.swap e f) (Memᴰ.head p) = Memᴰ.tail (Memᴰ.head (p ∙ e))
mem_perm (Permᴰ.swap e f) (Memᴰ.tail (Memᴰ.head p)) = Memᴰ.head (p ∙ f)
mem_perm (Permᴰ.swap e f) (Memᴰ.tail (Memᴰ.tail m)) = Memᴰ.tail (Memᴰ.tail m)
mem_perm (Permᴰ.trans d₁ d₂) m = mem_perm d₂ (mem_perm d₁ m)

module _ {A B : Type 0} (step : B → A → B) where
  unfoldable pub fold : B → List A → B
  fold b [] = b
  fold b (x ∷ xs) = fold (step b x) xs

-- I holds of every state and P of every element
module _ {A B : Type 0} (step : B → A → B) (I : B → Type 0) (P : A → Type 0)
    (keeps : (b : B) (x : A) → I b → P x → I (step b x))
    (commutes : (b : B) (x y : A) → I b → P x → P y → step (step b x) y ≡ step (step b y) x) where
  pub fold_perm : {xs ys : List A} → Permᴰ xs ys → ((x : A) → Memᴰ x xs → P x) → (b : B) → I b → fold step b xs ≡ fold step b ys
  unfolding fold
  fold_perm Permᴰ.nil p b i = refl
  fold_perm (Permᴰ.cons {a = x} {b = y} {l₂ = ys} e d) p b i =
      fold_perm d (λ z m. p z (Memᴰ.tail m)) (step b x) (keeps b x i (p x (Memᴰ.head refl))) ∙ ap (λ z. fold step (step b z) ys) e
  fold_perm (Permᴰ.swap {a = x} {b = y} {l = l} e f) p b i =
      ap (λ c. fold step c l) (commutes b x y i (p x (Memᴰ.head refl)) (p y (Memᴰ.tail (Memᴰ.head refl)))) ∙ cc
  fold_perm (Permᴰ.trans d₁ d₂) p b i =
      fold_perm d₁ p b i ∙ fold_perm d₂ (λ z m. p z (mem_perm (Permᴰ.symm d₁) m)) b i

-- the greatest by a score commutes, where the score tells values apart
module _ {A : Type 0} (score : A → ℕ) where
  unfoldable pub greater : A → A → A
  greater b x = if ltb (score b) (score x) then x else b

  pub greater_commutes : (b x y : A) → (score x ≡ score y → x ≡ y) → greater (greater b x) y ≡ greater (greater b y) x
  unfolding greater
  greater_commutes b x y same = go (ltb (score b) (score x)) (ltb (score b) (score y)) refl refl
    where
      last : (p q : Bool) → ltb (score x) (score y) ≡ p → ltb (score y) (score x) ≡ q → greater x y ≡ greater y x
      last true true e f = absurd (omega (arith, ltb-true (score x) (score y) e, ltb-true (score y) (score x) f))
      last true false e f = rw (e, f)
      last false true e f = rw (e, f)
      last false false e f = rw (e, f) (same (omega (arith, ltb-false (score x) (score y) e, ltb-false (score y) (score x) f)))

      go : (p q : Bool) → ltb (score b) (score x) ≡ p → ltb (score b) (score y) ≡ q → greater (greater b x) y ≡ greater (greater b y) x
      go true true e f = rw (e, f) (last (ltb (score x) (score y)) (ltb (score y) (score x)) refl refl)
      go true false e f =
          let n : ltb (score x) (score y) ≡ false = le-ltb (score x) (score y) (omega (arith, ltb-true (score b) (score x) e, ltb-false (score b) (score y) f)) in
          rw (e, f) (rw (e, n))
      go false true e f =
          let n : ltb (score y) (score x) ≡ false = le-ltb (score y) (score x) (omega (arith, ltb-false (score b) (score x) e, ltb-true (score b) (score y) f)) in
          rw (e, f) (rw n)
      go false false e f = rw (e, f) (rw e)
