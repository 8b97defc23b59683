-- The rest of null, true or false is there where the bytes begin with it.
use mathlib.Core.Path.{◌≡◌, refl, sym, ◌∙◌, ap}
use mathlib.Core.Bool.{Bool, true, false, ◌&&◌}
use mathlib.Core.List.{List, [], ◌∷◌}
use Prim.Native.Nat.{ℕ, ◌+◌}
use native.Mathlib.Omega.{arith}
use lib.ListN.{length, drop}
use lib.Seq.{drop-drop}
use lib.Dec.{eqb}
use borrow.Author.Tests.{eq-eqb, ne_eqb, eqb-true, eqb-false}
use Rattle.std.specs.Prelude.{if◌then◌else◌, Ok, Err}
use Rattle.std.specs.List.{starts_with, slice_range}
use Rattle.std.proofs.lemmas.Slice.{between_to_end}
use Rattle.definition.specs.Json.{got, fault, malformed, word}
use Rattle.json_text.specs.Scanned.{left, Reads}
use Rattle.json_text.specs.declared.Fault.TheVariants.{Malformed}

same : (b c : ℕ) → eqb b c ≡ eqb c b
same b c = go (eqb b c) refl
  where
    go : (x : Bool) → eqb b c ≡ x → x ≡ eqb c b
    go true e = sym (eq-eqb c b (sym (eqb-true b c e)))
    go false e = sym (ne_eqb c b (λ z. eqb-false b c e (sym z)))

read_word : (w s : List ℕ)
    → left (word w s) ≡ (if starts_with eqb s w then got tt (drop (length w) s) else fault malformed)
unfolding word
read_word [] s = refl
read_word (c ∷ w) [] = refl
read_word (c ∷ w) (b ∷ s) = rw (same b c) (go (eqb c b) (read_word w s))
  where
    go : (x : Bool) → left (word w s) ≡ (if starts_with eqb s w then got tt (drop (length w) s) else fault malformed)
        → left (if x then word w s else fault malformed) ≡ (if x && starts_with eqb s w then got tt (drop (length w) s) else fault malformed)
    go true h = h
    go false h = refl

-- the part of m from a place on, and whether it begins with w
module _ (m w text : List ℕ) (at : ℕ) {r : Bool} (s : text ≡ slice_range m at (length m)) (v : r ≡ starts_with eqb text w) where
  text_is : text ≡ drop at m
  text_is = s ∙ between_to_end m at (length m) (omega arith)

  said : left (word w (drop at m)) ≡ (if r then got tt (drop (length w) (drop at m)) else fault malformed)
  said =
      read_word w (drop at m)
      ∙ ap (λ b. if b then got tt (drop (length w) (drop at m)) else fault malformed) (sym (v ∙ ap (λ t. starts_with eqb t w) text_is))

  pub word_there : r ≡ true → Reads m (word w (drop at m)) (Ok (at + length w))
  word_there e = record { is = said ∙ rw e (ap (got tt) (drop-drop (length w) at m)) }

  pub word_other : r ≡ false → Reads m (word w (drop at m)) (Err Malformed)
  word_other e = record { is = said ∙ rw e }
