-- How a reader ends on a text of the grammar: with the value, or, only where a limit is broken, with a fault that is not `malformed`.
use Rattle.std.specs.Prelude.{◌≡◌, refl, ℕ, Bool, true, false, ◌||◌, [], ◌∷◌, ◌++◌, eqb, if◌then◌else◌}
use Rattle.std.proofs.Common.{sym, ◌∙◌, ap, append_assoc, eqb-true}
use Rattle.definition.specs.Text.{Text, skip_while}
use Rattle.definition.specs.Json.{Read, got, Fault, malformed, fault, and_then, is_space, skip_space}
use Rattle.definition.specs.JsonGrammar as G
use Rattle.definition.specs.JsonGrammar.{no-space, space, horizontal-tab, line-feed, carriage-return, spaced}

-- m gives a, and leaves t but for white space; or it gives a fault, and the limits W do not hold
pub data Ends {A : Type 0} (m : Read A) (a : A) (t : Text) (W : Type 0) : Type 0 where
  gets : (r : Text) → m ≡ got a r → skip_space r ≡ skip_space t → Ends m a t W
  stops : (f : Fault) → m ≡ fault f → (f ≡ malformed → ⊥) → (W → ⊥) → Ends m a t W

pub ends_same : {A : Type 0} {m n : Read A} {a : A} {t : Text} {W : Type 0} → m ≡ n → Ends n a t W → Ends m a t W
ends_same e (gets r f s) = gets r (e ∙ f) s
ends_same e (stops f g n w) = stops f (e ∙ g) n w

pub ends_under : {A : Type 0} {m : Read A} {a : A} {t : Text} {W X : Type 0} → (X → W) → Ends m a t W → Ends m a t X
ends_under h (gets r f s) = gets r f s
ends_under h (stops f g n w) = stops f g n (λ x. w (h x))

-- one reader after another
pub ends_then : {A B : Type 0} {m : Read A} (k : A → Text → Read B) {a : A} {t : Text} {b : B} {u : Text} {W Y X : Type 0}
    → Ends m a t W → (X → W) → (X → Y) → ((r : Text) → skip_space r ≡ skip_space t → Ends (k a r) b u Y) → Ends (and_then m k) b u X
ends_then k (gets r e s) g h next = ends_under h (ends_same (ap (λ m. and_then m k) e) (next r s))
ends_then k (stops f e n w) g h next = stops f (ap (λ m. and_then m k) e) n (λ x. w (g x))

-- and what it gives put into a larger value
pub ends_map : {A B : Type 0} {m : Read A} {a : A} {t : Text} {W X : Type 0} (h : A → B) → (X → W) → Ends m a t W → Ends (and_then m (λ x r. got (h x) r)) (h a) t X
ends_map h g d = ends_then (λ x r. got (h x) r) d g (λ x. x) (λ r s. gets r refl s)

-- white space in front
pub skip_ws : {a : Text} (s : Text) → G.ws a → skip_space (a ++ s) ≡ skip_space s
unfolding skip_while is_space
skip_ws s no-space = refl
skip_ws s (space w) = skip_ws s w
skip_ws s (horizontal-tab w) = skip_ws s w
skip_ws s (line-feed w) = skip_ws s w
skip_ws s (carriage-return w) = skip_ws s w

-- WHAT WAS READ OFF the front of s, and leaves r
pub record Cut (A : Text → Type 0) (s r : Text) : Type 0 where
  pub text : Text
  pub cut : s ≡ text ++ r
  pub holds : A text

-- a text cut twice
pub cut_then : {s q : Text} (x y r : Text) → s ≡ x ++ q → q ≡ y ++ r → s ≡ (x ++ y) ++ r
cut_then x y r e f = e ∙ ap (λ z. x ++ z) f ∙ sym (append_assoc x y r)

-- the white space in front
pub spaces_of : (s : Text) → Cut G.ws s (skip_space s)
unfolding skip_while is_space
spaces_of [] = record { text = []; cut = refl; holds = no-space }
spaces_of (b ∷ s) = go (spaces_of s) (eqb b 32) refl (eqb b 9) refl (eqb b 10) refl (eqb b 13) refl
  where
    go : Cut G.ws s (skip_space s) → (t : Bool) → eqb b 32 ≡ t → (u : Bool) → eqb b 9 ≡ u → (v : Bool) → eqb b 10 ≡ v → (w : Bool) → eqb b 13 ≡ w
        → Cut G.ws (b ∷ s) (if t || u || v || w then skip_space s else b ∷ s)
    go c true h u i v j w k = record { text = 32 ∷ c.text; cut = cc (c.cut, eqb-true b 32 h); holds = space c.holds }
    go c false h true i v j w k = record { text = 9 ∷ c.text; cut = cc (c.cut, eqb-true b 9 i); holds = horizontal-tab c.holds }
    go c false h false i true j w k = record { text = 10 ∷ c.text; cut = cc (c.cut, eqb-true b 10 j); holds = line-feed c.holds }
    go c false h false i false j true k = record { text = 13 ∷ c.text; cut = cc (c.cut, eqb-true b 13 k); holds = carriage-return c.holds }
    go c false h false i false j false k = record { text = []; cut = refl; holds = no-space }

-- a structural character, with the white space behind it or without
pub opens : (c : ℕ) (s u : Text) → skip_space s ≡ c ∷ u → Cut (G.structural c) s (skip_space u)
opens c s u e = go (spaces_of s) (spaces_of u)
  where
    go : Cut G.ws s (skip_space s) → Cut G.ws u (skip_space u) → Cut (G.structural c) s (skip_space u)
    go w v =
        record {
          text = w.text ++ c ∷ v.text;
          cut = cut_then w.text (c ∷ v.text) (skip_space u) (w.cut ∙ ap (λ z. w.text ++ z) e) (ap (λ z. c ∷ z) v.cut);
          holds = spaced w.holds v.holds;
        }

pub closes : (c : ℕ) (s u : Text) → skip_space s ≡ c ∷ u → Cut (G.structural c) s u
closes c s u e = go (spaces_of s)
  where
    go : Cut G.ws s (skip_space s) → Cut (G.structural c) s u
    go w = record { text = w.text ++ c ∷ []; cut = cut_then w.text (c ∷ []) u (w.cut ∙ ap (λ z. w.text ++ z) e) refl; holds = spaced w.holds no-space }

-- the white space around a structural character is skipped
pub skip_structural : {x : Text} (c : ℕ) → is_space c ≡ false → G.structural c x → (t : Text) → (u : Text) × (skip_space (x ++ t) ≡ c ∷ u) × (skip_space u ≡ skip_space t)
unfolding skip_while
skip_structural c n (spaced {a = a} {b = b} p q) t =
    (b ++ t, ap skip_space (append_assoc a (c ∷ b) t) ∙ skip_ws (c ∷ b ++ t) p ∙ rw n, skip_ws t q)
