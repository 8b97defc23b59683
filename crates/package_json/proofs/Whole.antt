-- The byte order mark, and the manifest as a whole.
use mathlib.Core.Path.{◌≡◌, refl, sym, ◌∙◌, ap}
use mathlib.Core.Bool.{Bool, true, false, ◌&&◌}
use mathlib.Core.List.{List, [], ◌∷◌}
use Prim.Native.Nat.{ℕ, ◌+◌, ◌<◌, ◌≤◌}
use lib.ListN.{length, drop}
use lib.Dec.{eqb}
use borrow.Author.Tests.{lt-leb, le-leb, ne_eqb}
use Rattle.std.specs.Prelude.{Result, Ok, Err}
use Rattle.std.specs.Result.{result_ok}
use Rattle.std.specs.List.{starts_with as slice_starts}
use Rattle.definition.specs.Text.{starts_with, skip_while}
use Rattle.definition.specs.Json.{malformed, beyond, and_then, skip_space, is_space, value, at_end, document, replace_bom, parse}
use Rattle.definition.specs.JsonAt.{rooted, faulty, checked_by, check, opens_bracket, rest_of, value_end}
use Rattle.json_text.specs.Scanned.{fault_of, Reads}
use Rattle.json_text.specs.declared.Fault.{Fault}
use Rattle.json_scalar.specs.Scalars.{scalar_of}
use Rattle.package_json.specs.Cursors.{placed}
use Rattle.json_string.proofs.Rules.{here, past}
use Rattle.json_text.proofs.Laws.{was_end, was_fault}
use Rattle.json_value.proofs.Loops.{value_scalar}

none : {P : Type 0} → ⊥ → P
none z = absurd z

-- the byte order mark
abbrev bom : List ℕ
bom = 239 ∷ 187 ∷ 191 ∷ []

-- the code's test is the definition's
same_test : (p s : List ℕ) → starts_with p s ≡ slice_starts eqb s p
unfolding starts_with
same_test [] s = refl
same_test (a ∷ p) [] = refl
same_test (a ∷ p) (b ∷ s) = ap (λ x. eqb a b && x) (same_test p s)

module _ (m : List ℕ) {r : Bool} (v : r ≡ slice_starts eqb m bom) where
  pub mark_none : r ≡ false → skip_space (replace_bom m) ≡ skip_space m
  unfolding replace_bom
  mark_none e = rw (same_test bom m ∙ sym v ∙ e)

  pub mark_there : r ≡ true → skip_space (replace_bom m) ≡ skip_space (drop 3 m)
  unfolding replace_bom skip_while is_space
  mark_there e = rw (same_test bom m ∙ sym v ∙ e)

-- the manifest as a whole
pub check_long : (m : List ℕ) → 16384 < length m → faulty beyond ≡ check m
unfolding check checked_by parse
check_long m l = rw (lt-leb (length m) 16384 l)

module _ (m : List ℕ) (l : length m ≤ 16384) (from start : ℕ) (e : skip_space (replace_bom m) ≡ skip_space (drop from m)) (f : skip_space (drop from m) ≡ drop start m) where
  parsed_as : parse m ≡ and_then (value 16 (drop start m)) (λ j r. at_end j (skip_space r))
  unfolding parse document
  parsed_as = rw (le-leb (length m) 16384 l, e ∙ f)

  pub check_fault : {f : Fault} → Reads m (value 16 (drop start m)) (Err f) → faulty (fault_of f) ≡ check m
  unfolding check checked_by
  check_fault g = rw parsed_as (rw (was_fault g))

  module _ {i k : ℕ} (g : Reads m (value 16 (drop start m)) (Ok i)) (u : skip_space (drop i m) ≡ drop k m) where
    pub check_more : k < length m → faulty malformed ≡ check m
    unfolding check checked_by at_end
    check_more b = rw parsed_as (rw ((was_end g).1, u, here m k b))

    pub check_all : length m ≤ k → rooted (drop start m) ≡ check m
    unfolding check checked_by at_end
    check_all b = rw parsed_as (rw ((was_end g).1, u, past m k b) (ap rooted (sym (e ∙ f))))

-- behind a value that is no string and opens no bracket
pub scalar_end : (m : List ℕ) (at b : ℕ) → drop at m ≡ b ∷ drop (at + 1) m → (b ≡ 34 → ⊥) → (b ≡ 91 → ⊥) → (b ≡ 123 → ⊥)
    → (r : Result ℕ Fault) → Reads m (scalar_of (drop at m)) r → placed m (result_ok r) ≡ value_end (drop at m)
unfolding value_end opens_bracket rest_of
scalar_end m at b l q a o r g =
    rw l (rw (ne_eqb b 34 q, ne_eqb b 91 a, ne_eqb b 123 o) (rw l at (ended r (value_scalar m 0 (drop at m) _ b l q a o g))))
  where
    ended : (r : Result ℕ Fault) → Reads m (value 0 (drop at m)) r
        → placed m (result_ok r) ≡ rest_of (value 0 (drop at m))
    ended (Ok i) h = rw (was_end h).1
    ended (Err f) h = rw (was_fault h)
