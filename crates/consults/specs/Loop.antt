-- A LOOP OF THE CODE AGAINST `for_each`. In a turn that begins with the tape t, what is left of the list l₀ is l: whatever
-- finishes l from t finishes l₀ from t₀. Assumes nothing.
use Rattle.std.specs.Prelude.{◌≡◌, List, [], ◌∷◌}
use Rattle.definition.specs.Ask.{Listing, Step, go, stop, ◌>>◌}
use Rattle.definition.specs.Json.{Fault}
use Rattle.definition.specs.Manifest.{Manifest}
use Rattle.definition.specs.Walk.{Look, for_each}
use Rattle.consults.specs.declared.Ending.{Ending}
use Rattle.consults.specs.Tape.{Tape, Done, done_ret, done_bind, done_stop}

module _ {A : Type 0} (L : Listing (Step Fault Manifest)) (f : A → Look (Unit {0})) where
  abbrev pub Left : List A → Tape → List A → Tape → Type 0
  Left l₀ t₀ l t = (t' : Tape) (r : Step Ending (Unit {0})) → Done L (for_each l f) t t' r → Done L (for_each l₀ f) t₀ t' r

  module _ (l₀ : List A) (t₀ : Tape) where
    pub left_start : (l : List A) → l ≡ l₀ → Left l₀ t₀ l t₀
    left_start l e t' r d = rw e at d

    -- the turn came back
    pub left_again : (x : A) (l l' : List A) (t t₁ : Tape) → l ≡ x ∷ l' → Left l₀ t₀ l t → Done L (f x) t t₁ (go tt) → Left l₀ t₀ l' t₁
    unfolding for_each ◌>>◌
    left_again x l l' t t₁ e h d t' r rest = h t' r (rw e (done_bind _ d rest))

    -- the turn ended the lookup
    pub left_stop : (x : A) (l l' : List A) (t t₁ : Tape) (z : Ending) → l ≡ x ∷ l' → Left l₀ t₀ l t → Done L (f x) t t₁ (stop z) → Done L (for_each l₀ f) t₀ t₁ (stop z)
    unfolding for_each ◌>>◌
    left_stop x l l' t t₁ z e h d = h t₁ (stop z) (rw e (done_stop _ d))

    -- nothing is left
    pub left_end : (l : List A) (t : Tape) → l ≡ [] → Left l₀ t₀ l t → Done L (for_each l₀ f) t₀ t (go tt)
    unfolding for_each
    left_end l t e h = h t (go tt) (rw e done_ret)
