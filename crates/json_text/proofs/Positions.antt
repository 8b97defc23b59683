-- How many bytes from a place on pass a test, by what `position` finds.
use mathlib.Core.Path.{◌≡◌, refl, ◌∙◌, ap}
use mathlib.Core.Bool.{Bool, true, false, cond}
use mathlib.Core.List.{List, [], ◌∷◌}
use Prim.Native.Nat.{ℕ, zero, suc, ◌+◌, ◌-◌, ◌≤◌, max}
use native.Mathlib.Omega.{arith}
use lib.ListN.{length, drop, get_or}
use lib.Dec.{ltb}
use borrow.Author.Tests.{ltb-false}
use Rattle.std.specs.Prelude.{if◌then◌else◌, not, Option, Some, None, unwrap_or}
use Rattle.std.specs.List.{find, prefix_len, position_or_len, range_with_len}
use Rattle.definition.specs.Text.{skip_while}
use Rattle.json_string.proofs.Rules.{here, past}

pub prefix_fits : (p : ℕ → Bool) (s : List ℕ) → prefix_len p s ≤ length s
prefix_fits p [] = omega arith
prefix_fits p (b ∷ s) = go (p b) (prefix_fits p s)
  where
    go : (x : Bool) → prefix_len p s ≤ length s → cond x (1 + prefix_len p s) 0 ≤ suc (length s)
    go true h = omega arith
    go false h = omega arith

-- as far as the first that fails it
pub until_failing : (p : ℕ → Bool) (s : List ℕ) → position_or_len (λ b. not (p b)) s ≡ prefix_len p s
until_failing p [] = refl
until_failing p (b ∷ s) = go (p b) (until_failing p s)
  where
    go : (x : Bool) → position_or_len (λ b. not (p b)) s ≡ prefix_len p s
        → cond (not (not x)) (1 + position_or_len (λ b. not (p b)) s) 0 ≡ cond x (1 + prefix_len p s) 0
    go true h = ap (λ n. 1 + n) h
    go false h = refl

pub position_else : (p : ℕ → Bool) (s : List ℕ) {r : Option ℕ}
    → r ≡ cond (ltb (position_or_len p s) (length s)) (Some (position_or_len p s)) None
    → unwrap_or r (length s) ≡ position_or_len p s
position_else p s {r} e = ap (λ o. unwrap_or o (length s)) e ∙ go (ltb (position_or_len p s) (length s)) refl
  where
    go : (x : Bool) → ltb (position_or_len p s) (length s) ≡ x
        → unwrap_or (cond x (Some (position_or_len p s)) None) (length s) ≡ position_or_len p s
    go true h = refl
    go false h = let z = ltb-false (position_or_len p s) (length s) h in let y = prefix_fits (λ b. not (p b)) s in omega arith

-- what `find` finds among the places from `at` on: the first whose byte fails it, or the end
pub first_failing : (p : ℕ → Bool) (m : List ℕ) (at n : ℕ) → length m - at ≡ n → (r : Option ℕ)
    → r ≡ find (λ i. not (p (get_or m i 0))) (range_with_len at n)
    → unwrap_or r (max at (length m)) ≡ at + prefix_len p (drop at m)
first_failing p m at zero l r e = rw (past m at (omega arith), e) (omega arith)
first_failing p m at (suc n) l r e =
    rw (here m at (omega arith)) (go (p (get_or m at 0)) e (first_failing p m (at + 1) n (omega arith) r))
  where
    go : (x : Bool) → r ≡ cond (not x) (Some at) (find (λ i. not (p (get_or m i 0))) (range_with_len (at + 1) n))
        → (r ≡ find (λ i. not (p (get_or m i 0))) (range_with_len (at + 1) n) → unwrap_or r (max (at + 1) (length m)) ≡ at + 1 + prefix_len p (drop (at + 1) m))
        → unwrap_or r (max at (length m)) ≡ at + cond x (1 + prefix_len p (drop (at + 1) m)) 0
    go true e h = let z : max at (length m) ≡ max (at + 1) (length m) = omega arith in rw z (h e ∙ omega arith)
    go false e h = rw e (omega arith)

-- the definition's readers skip as many
pub skip_prefix : (p : ℕ → Bool) (s : List ℕ) → skip_while p s ≡ drop (prefix_len p s) s
unfolding skip_while
skip_prefix p [] = refl
skip_prefix p (b ∷ s) = go (p b) (skip_prefix p s)
  where
    go : (x : Bool) → skip_while p s ≡ drop (prefix_len p s) s
        → (if x then skip_while p s else b ∷ s) ≡ drop (cond x (1 + prefix_len p s) 0) (b ∷ s)
    go true h = let z : 1 + prefix_len p s ≡ suc (prefix_len p s) = omega arith in rw z h
    go false h = refl
