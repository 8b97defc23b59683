-- Where a place's numbers pass the tests, it is one that a string can lead to.
use mathlib.Core.Path.{◌≡◌, refl}
use mathlib.Core.Bool.{Bool, true, false}
use Prim.Native.Nat.{ℕ, zero, suc}
use native.Mathlib.Omega.{arith}
use lib.Dec.{leb}
use borrow.Author.Tests.{lt-ltb, le-leb, eq-eqb, ne_eqb, ltb-true, leb-true, eqb-true}
use Rattle.std.specs.Prelude.{Option}
use Rattle.definition.specs.Text.{within}
use Rattle.definition.specs.Json.{step}
use Rattle.laws.specs.JsonStringLaws.{by_test}
use Rattle.json_string.specs.Automaton.{place_of, High, Below, Good, Steps, follows, fits, advanced}
use Rattle.json_string.specs.declared.Place.{Place}
use Rattle.json_string.specs.declared.Place.TheVariants.{Between, Sequence, Escape, Hex, SecondEscape, SecondU, SecondHex}
use Rattle.json_string.specs.declared.Step.{Step}

not : {P : Type 0} → ⊥ → P
not z = absurd z

-- the tests of a place's numbers
follows_below : (n v : ℕ) → follows n v ≡ true → Below n v
unfolding follows
follows_below zero v e = not (let z : ◌≡◌ {A = ℕ} 0 1 = cc in omega arith)
follows_below (suc zero) v e = record { some_left = omega arith; at_most = omega arith; small = ltb-true v 4096 e }
follows_below (suc (suc zero)) v e = record { some_left = omega arith; at_most = omega arith; small = ltb-true v 256 e }
follows_below (suc (suc (suc zero))) v e =
    record { some_left = omega arith; at_most = omega arith; small = ltb-true v 16 e }
follows_below (suc (suc (suc (suc zero)))) v e = let z = eqb-true v 0 e in record { some_left = omega arith; at_most = omega arith; small = omega arith }
follows_below (suc (suc (suc (suc (suc n))))) v e =
    let k = suc (suc (suc (suc (suc n)))) in
    not (let z : ◌≡◌ {A = Bool} false true = rw (ne_eqb k 1 (λ q. omega arith), ne_eqb k 2 (λ q. omega arith), ne_eqb k 3 (λ q. omega arith), ne_eqb k 4 (λ q. omega arith)) at e in let y : ◌≡◌ {A = ℕ} 0 1 = cc in omega arith)

below_follows : (n v : ℕ) → Below n v → follows n v ≡ true
unfolding follows
below_follows zero v b = not (let z = b.some_left in omega arith)
below_follows (suc zero) v b = lt-ltb v 4096 b.small
below_follows (suc (suc zero)) v b = lt-ltb v 256 b.small
below_follows (suc (suc (suc zero))) v b = lt-ltb v 16 b.small
below_follows (suc (suc (suc (suc zero)))) v b = let z = b.small in eq-eqb v 0 (omega arith)
below_follows (suc (suc (suc (suc (suc n))))) v b = not (let z = b.at_most in omega arith)

within_high : (h : ℕ) → within 55296 56319 h ≡ true → High h
unfolding within
within_high h e =
    by_test (leb 55296 h) (λ l. by_test (leb h 56319) (λ r. record { low = leb-true 55296 h l; high = leb-true h 56319 r }) (λ r. not (no (rw (l, r) at e)))) (λ l. not (no (rw l at e)))
  where
    no : ◌≡◌ {A = Bool} false true → ⊥
    no z = let w : ◌≡◌ {A = ℕ} 0 1 = cc in omega arith

high_within : (h : ℕ) → High h → within 55296 56319 h ≡ true
unfolding within
high_within h g = rw (le-leb 55296 h g.low, le-leb h 56319 g.high)

pub fits_good : (p : Place) → fits p ≡ true → Good p
fits_good Between e = tt
fits_good (Sequence n lo hi) e = ltb-true 0 n e
fits_good Escape e = tt
fits_good (Hex n v) e = follows_below n v e
fits_good (SecondEscape h) e = within_high h e
fits_good (SecondU h) e = within_high h e
fits_good (SecondHex h n v) e =
    by_test (within 55296 56319 h) (λ l. (within_high h l, follows_below n v (rw l at e))) (λ l. not (let z : ◌≡◌ {A = Bool} false true = rw l at e in let w : ◌≡◌ {A = ℕ} 0 1 = cc in omega arith))

good_fits : (p : Place) → Good p → fits p ≡ true
good_fits Between g = refl
good_fits (Sequence n lo hi) g = lt-ltb 0 n g
good_fits Escape g = refl
good_fits (Hex n v) g = below_follows n v g
good_fits (SecondEscape h) g = high_within h g
good_fits (SecondU h) g = high_within h g
good_fits (SecondHex h n v) g = rw (high_within h g.0) (below_follows n v g.1)

pub advanced_good : (p : Place) (b : ℕ) {r : Option Step} → Good p → Steps (advanced p b) r
    → Steps (step (place_of p) b) r
unfolding advanced
advanced_good p b g e = rw (good_fits p g) at e
