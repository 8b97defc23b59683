-- The bytes of a component, from behind, and the texts that are no component.
use Rattle.std.proofs.Common.{◌≡◌, ℕ, suc, ◌+◌, ◌-◌, ◌≤◌, ◌<◌, Bool, true, false, ◌&&◌, ltb, ◌==◌, [], ◌∷◌, length}
use Rattle.std.proofs.Common.{take, drop, get_or, refl, ◌∙◌, ap, arith, add-one, drop_of_length-le, drop-cons}
use Rattle.std.proofs.Common.{length-drop, take_all}
use Rattle.std.specs.Prelude.{Some, None, if◌then◌else◌}
use Rattle.std.specs.Bool.{then_some}
use Rattle.std.proofs.lemmas.List.{length-take-le}
use borrow.Author.Tests.{ne_eqb, ltb-true}
use Rattle.definition.specs.Text.{Text, slash, equal, contains, before_last, is_utf8, is_utf8_from, due_after}
use Rattle.definition.specs.Listing.{is_component}
use Rattle.laws.specs.TextLaws.{and_true}
use Rattle.laws.specs.TextSteps.{last_at, last_none}
use Rattle.laws.specs.ListingNameLaws.{is_name}
use Rattle.listing_rules.specs.Meaning.{Plain, slash_before_name}

-- a text equals the empty one where it has no byte
pub none : (c : Text) → (length c == 0) ≡ equal c []
unfolding equal
none [] = refl
none (b ∷ c) = ne_eqb (length (b ∷ c)) 0 (λ e. omega arith)

pub plain_end : (q : Text) (i : ℕ) → length q ≤ i → Plain (drop i q)
unfolding is_utf8 is_utf8_from contains
plain_end q i h = rw (drop_of_length-le q h) (refl, refl)

plain_more : (b : ℕ) (s : Text) → 0 < b → ltb b 128 ≡ true → Plain s → Plain (b ∷ s)
unfolding is_utf8 is_utf8_from due_after contains
plain_more b s z h p = (rw h p.0, rw (ne_eqb b 0 (λ e. omega arith)) p.1)

pub plain_next : (q : Text) (i : ℕ) → i < length q → ltb 0 (get_or q i 0) && ltb (get_or q i 0) 128 ≡ true
    → Plain (drop (i + 1) q) → Plain (drop i q)
plain_next q i h t p =
    let a = and_true _ _ t in
    rw (drop-cons q i 0 h, ← add-one i) (plain_more (get_or q i 0) (drop (i + 1) q) (ltb-true _ _ a.0) a.1 p)

-- what is behind a place, as a slice has it
pub rest_is : (q : Text) (k : ℕ) → take (length q - k) (drop k q) ≡ drop k q
rest_is q k = take_all (length q - k) (drop k q) (omega (arith, length-drop k q))

pub at_slash : (q : Text) (s : ℕ) (b : Bool) → s < length q → get_or q s 0 ≡ slash
    → contains slash (drop (s + 1) q) ≡ false
    → b ≡ is_name (drop (s + 1) q) → then_some b s ≡ slash_before_name q
unfolding slash_before_name
at_slash q s b i e n h =
    let m : contains slash (drop (suc s) q) ≡ false = rw add-one at n in
    let l : length (before_last slash q) ≡ s = ap length (last_at slash q s i e m).1
    ∙ length-take-le s q (omega arith) in
    rw (l, ← h) (go b)
  where
    go : (b : Bool) → then_some b s ≡ (if b then Some s else None)
    go true = refl
    go false = refl

pub no_slash : (q : Text) → contains slash q ≡ false → None ≡ slash_before_name q
unfolding slash_before_name is_name is_component equal
no_slash q n = rw (last_none slash q n, drop_of_length-le q {i = length q + 1} (omega arith))
