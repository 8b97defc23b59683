-- Facts about the definitions of `Specifier`. Assumes nothing.
use Rattle.std.specs.Prelude.{◌≡◌, refl, Bool, false, ◌&&◌, ◌||◌, List, [], ◌∷◌, ◌++◌, eqb, drop, take, get_or, if◌then◌else◌}
use Rattle.std.proofs.Common.{sym, ◌∙◌, length-take, drop_of_length-le, drop-cons}
use Rattle.std.proofs.Math.Path.{ap}
use Prim.Native.Nat.{ℕ, zero, suc, ◌+◌, ◌≤◌, ◌<◌}
use Rattle.std.proofs.Math.Bool.{true, not, and-false, and_assoc, and_comm}
use Rattle.std.proofs.Math.Option.{none, some}
use native.Mathlib.Omega.{arith}
use borrow.Author.Tests.{eqb-true, eqb-false, eq-eqb, ne_eqb, leb-true, not-true}
use Rattle.std.proofs.Math.Dec.{leb}
use Rattle.std.proofs.Math.ListN.{length, length-append}
use Rattle.std.proofs.Math.Seq.{take-append-add, append_snoc, drop-nil}
use Rattle.definition.specs.Text.{text, slash, equal, starts_with, is_utf8, contains, contains_text, before, after, to_first, split}
use Rattle.laws.specs.TextLaws.{before_after, and_true}
use Rattle.definition.specs.Path.{component, leading, components}
use Rattle.definition.specs.Specifier.{package_name, first_is_normal, is_bare, normalized_specifier, climbing, is_hash, is_specifier, specifier_computes}

-- the byte c stands at a place, or it does not
pub starts_at : (c : ℕ) (s : List ℕ) (i : ℕ) → i < length s → get_or s i 0 ≡ c → starts_with (c ∷ []) (drop i s) ≡ true
unfolding starts_with
starts_at c s i h e = rw (drop-cons s i 0 h) (simp (eq-eqb _ _ (sym e)))

pub starts_not : (c : ℕ) (s : List ℕ) (i : ℕ) → (get_or s i 0 ≡ c → ⊥) → starts_with (c ∷ []) (drop i s) ≡ false
unfolding starts_with
starts_not c [] i n = rw (drop-nil i)
starts_not c (b ∷ s) zero n = rw (ne_eqb c b (λ e. n (sym e)))
starts_not c (b ∷ s) (suc i) n = starts_not c s i n

pub starts_end : (c : ℕ) (s : List ℕ) (i : ℕ) → length s ≤ i → starts_with (c ∷ []) (drop i s) ≡ false
unfolding starts_with
starts_end c s i h = rw (drop_of_length-le s h)

-- what stands before the first c is a start of the text; c occurs where it is not the whole
pub before_take : (c : ℕ) (s : List ℕ) → before c s ≡ take (length (before c s)) s
unfolding before
before_take c [] = refl
before_take c (b ∷ s) = go (eqb b c) (before_take c s)
  where
    go : (t : Bool) → before c s ≡ take (length (before c s)) s → (if t then [] else b ∷ before c s) ≡ take (length (if t then [] else b ∷ before c s)) (b ∷ s)
    go true ih = refl
    go false ih = ap (λ l. b ∷ l) ih

pub contains_before : (c : ℕ) (s : List ℕ) → length (before c s) < length s → contains c s ≡ true
unfolding before contains
contains_before c [] h = let z : ⊥ = omega arith in absurd z
contains_before c (b ∷ s) h = go (eqb b c) (contains_before c s) h
  where
    go : (t : Bool) → (length (before c s) < length s → contains c s ≡ true) → length (if t then [] else b ∷ before c s) < suc (length s) → t || contains c s ≡ true
    go true ih h = refl
    go false ih h = ih (omega arith)

pub contains_none : (c : ℕ) (s : List ℕ) → length s ≤ length (before c s) → contains c s ≡ false
unfolding before contains
contains_none c [] h = refl
contains_none c (b ∷ s) h = go (eqb b c) (contains_none c s) h
  where
    go : (t : Bool) → (length s ≤ length (before c s) → contains c s ≡ false) → suc (length s) ≤ length (if t then [] else b ∷ before c s) → t || contains c s ≡ false
    go true ih h = let z : ⊥ = omega arith in absurd z
    go false ih h = ih (omega arith)

-- where the name ends
module _ (s : List ℕ) where
  unscoped : starts_with (text "@") s && contains slash s ≡ false → package_name s ≡ before slash s
  unfolding package_name
  unscoped h = rw h

  scoped : starts_with (text "@") s && contains slash s ≡ true → package_name s ≡ before slash s ++ slash ∷ before slash (after slash s)
  unfolding package_name
  scoped h = rw h (append_snoc (before slash s) slash (before slash (after slash s)))

  pub name_take : package_name s ≡ take (length (package_name s)) s
  name_take = go (starts_with (text "@") s && contains slash s) refl
    where
      go : (t : Bool) → starts_with (text "@") s && contains slash s ≡ t → package_name s ≡ take (length (package_name s)) s
      go false h = rw (unscoped h) (before_take slash s)
      go true h =
          let x = before slash s in
          let y = before slash (after slash s) in
          let e : s ≡ x ++ slash ∷ after slash s = before_after slash s (and_true (starts_with (text "@") s) _ h).1 in
          let n : length (x ++ slash ∷ y) ≡ length x + suc (length y) = length-append x (slash ∷ y) in
          let f : take (length x + suc (length y)) (x ++ slash ∷ after slash s) ≡ x ++ slash ∷ take (length y) (after slash s) = take-append-add x (slash ∷ after slash s) (suc (length y)) in
          rw (scoped h, n) (sym (ap (take (length x + suc (length y))) e ∙ f ∙ ap (λ l. x ++ slash ∷ l) (sym (before_take slash (after slash s)))))

  pub name_inside : length (package_name s) ≤ length s
  name_inside = omega (arith, ap length name_take, length-take (length (package_name s)) s)

  module _ (f : ℕ) (e : f ≡ 0 + length (before slash (drop 0 s))) where
    there : f < length s → contains slash s ≡ true
    there h = contains_before slash s (omega arith)

    pub name_whole : length s ≤ f → f ≡ length (package_name s)
    name_whole h = let n : contains slash s ≡ false = contains_none slash s (omega arith) in omega (arith, ap length (unscoped (rw n (and-false (starts_with (text "@") s)))))

    pub name_plain : (get_or s 0 0 ≡ 64 → ⊥) → f ≡ length (package_name s)
    name_plain n = let z : starts_with (text "@") s ≡ false = starts_not 64 s 0 n in omega (arith, ap length (unscoped (rw z)))

    pub name_scoped : f < length s → get_or s 0 0 ≡ 64 → (g : ℕ) → g ≡ f + 1 + length (before slash (drop (f + 1) s)) → g ≡ length (package_name s)
    unfolding after
    name_scoped h a g k =
        let p : starts_with (text "@") s ≡ true = starts_at 64 s 0 (omega arith) a in
        let q : contains slash s ≡ true = there h in
        let n : f + 1 ≡ suc (length (before slash s)) = omega arith in
        omega (arith, ap length (scoped (rw (p, q))), length-append (before slash s) (slash ∷ before slash (after slash s)), rw n at k)

-- a bare specifier, by its bytes
unfoldable pub bare_bytes : List ℕ → Bool
bare_bytes s =
    not (equal s []) && not (starts_with (text "/") s) && not (starts_with (text "#") s) && not (equal (before slash s) (text ".")) && not (equal (before slash s) (text ".."))

-- the first part between slashes is what stands before the first slash
unfoldable other_parts : ℕ → List ℕ → List (List ℕ)
other_parts c [] = []
other_parts c (b ∷ s) = let rest = other_parts c s in if eqb b c then split c s else rest

split_first : (c : ℕ) (s : List ℕ) → split c s ≡ before c s ∷ other_parts c s
unfolding split to_first before other_parts
split_first c [] = refl
split_first c (b ∷ s) = go (eqb b c) (split_first c s)
  where
    go : (t : Bool) → split c s ≡ before c s ∷ other_parts c s → (if t then [] ∷ split c s else to_first b (split c s)) ≡ (if t then [] else b ∷ before c s) ∷ (if t then split c s else other_parts c s)
    go true ih = refl
    go false ih = rw ih

not_empty : (b : ℕ) (p : List ℕ) → equal (b ∷ p) [] ≡ false
unfolding equal
not_empty b p = refl

before_more : (c b : ℕ) (s : List ℕ) → eqb b c ≡ false → before c (b ∷ s) ≡ b ∷ before c s
unfolding before
before_more c b s h = rw h

first_normal : (b : ℕ) (p : List ℕ) (ps : List (List ℕ)) → first_is_normal (leading ((b ∷ p) ∷ ps)) ≡ not (equal (b ∷ p) (text ".")) && not (equal (b ∷ p) (text ".."))
unfolding leading component first_is_normal
first_normal b p ps = go (equal (b ∷ p) (text ".")) (equal (b ∷ p) (text "..")) refl refl
  where
    go : (d e : Bool) → equal (b ∷ p) (text ".") ≡ d → equal (b ∷ p) (text "..") ≡ e → first_is_normal (leading ((b ∷ p) ∷ ps)) ≡ not (equal (b ∷ p) (text ".")) && not (equal (b ∷ p) (text ".."))
    go true e h k = simp h
    go false true h k = simp (not_empty b p, h, k)
    go false false h k = simp (not_empty b p, h, k)

bare_empty : is_bare [] ≡ bare_bytes []
unfolding specifier_computes bare_bytes
bare_empty = refl

pub bare : (s : List ℕ) → is_bare s ≡ bare_bytes s
unfolding is_bare bare_bytes components first_is_normal
bare [] = bare_empty
bare (b ∷ s) = go (eqb b 47) refl
  where
    turn : (d e h : Bool) → d && e && h ≡ h && d && e
    turn d e h = and_comm (d && e) h ∙ sym (and_assoc h d e)

    go : (t : Bool) → eqb b 47 ≡ t → is_bare (b ∷ s) ≡ bare_bytes (b ∷ s)
    go true h =
        let p : starts_with (text "/") (b ∷ s) ≡ true = starts_at 47 (b ∷ s) 0 (omega arith) (eqb-true b 47 h) in
        simp (p, not_empty b s)
    go false h =
        let p : starts_with (text "/") (b ∷ s) ≡ false = starts_not 47 (b ∷ s) 0 (eqb-false b 47 h) in
        simp (p, not_empty b s, split_first slash (b ∷ s), before_more slash b s h, first_normal b (before slash s) (other_parts slash (b ∷ s))) (turn (not (equal (b ∷ before slash s) (text "."))) (not (equal (b ∷ before slash s) (text ".."))) (not (starts_with (text "#") (b ∷ s))))

-- the second walk, by the tests that decide it
module _ (s : List ℕ) where
  pub climbing_flat : contains_text (text "/../..") s || contains_text (text "../../") s ≡ false → climbing s ≡ none
  unfolding climbing
  climbing_flat h = rw h

  pub climbing_inside : equal (package_name (normalized_specifier s)) (text "..") ≡ false → climbing s ≡ none
  unfolding climbing
  climbing_inside h = simp (h, and-false)

  pub climbing_above : contains_text (text "/../..") s || contains_text (text "../../") s ≡ true → equal (package_name (normalized_specifier s)) (text "..") ≡ true → climbing s ≡ some (normalized_specifier s)
  unfolding climbing
  climbing_above h k = rw (h, k)

-- a question's specifier is no longer than 512 bytes, and no "#" name: those are refused as 22 so far
module _ (s : List ℕ) (h : is_specifier s ≡ true) where
  bare_and_short : (is_bare s ≡ true) × (leb (length s) 512 ≡ true)
  unfolding is_specifier
  bare_and_short =
      let a = and_true (is_bare s && leb (length s) 512 && not (contains 0 s)) (is_utf8 s) h in
      let b = and_true (is_bare s && leb (length s) 512) (not (contains 0 s)) a.0 in
      and_true (is_bare s) (leb (length s) 512) b.0

  pub specifier_short : length s ≤ 512
  specifier_short = leb-true (length s) 512 bare_and_short.1

  pub specifier_bare : is_hash s ≡ false
  unfolding is_hash is_bare
  specifier_bare = not-true _ (and_true (first_is_normal (components s)) (not (starts_with (text "#") s)) bare_and_short.0).1
