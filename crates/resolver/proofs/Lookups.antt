-- The second walk and the lookup: the code's steps as the definition's. Assumes nothing.
use mathlib.Core.Path.{◌≡◌, sym, ◌∙◌, ap}
use mathlib.Core.Bool.{Bool, true, false}
use mathlib.Core.List.{[], ◌++◌}
use Prim.Native.Nat.{ℕ, ◌+◌, ◌≤◌}
use native.Mathlib.Omega.{arith}
use borrow.Author.Tests.{le-leb}
use lib.ListN.{length, length-append, length-drop}
use Rattle.std.specs.Prelude.{if◌then◌else◌}
use Rattle.definition.specs.Text.{Text, text, equal, ends_with}
use Rattle.definition.specs.Path.{Built, built, too_long, and_path, limited, normalize_relative}
use Rattle.definition.specs.Specifier.{package_name, package_subpath, normalized_specifier}
use Rattle.laws.specs.TextLaws.{equal_true}
use Rattle.laws.specs.PathLaws.{normalize_relative_short}
use Rattle.definition.specs.Settings.{Settings}
use Rattle.definition.specs.Ask.{Listing, Step, end, ◌>>=◌, ◌>>◌}
use Rattle.definition.specs.Walk.{not_found, lookup}
use Rattle.consults.specs.declared.Ending.{Ending}
use Rattle.consults.specs.Tape.{Tape, Done}
use Rattle.consults.specs.Meaning.{Sees}
use Rattle.resolver.specs.Routines.{load_package}
use Rattle.consults.proofs.Ways.{bind_bind}

-- a normalised specifier may have a slash more
normalized_next : (spec : Text) → length (normalized_specifier spec) ≤ length spec + 1
unfolding normalized_specifier
normalized_next spec = by (ends_with (text "/") spec)
  where
    by : (t : Bool) → length (normalize_relative spec ++ (if t then text "/" else [])) ≤ length spec + 1
    by true = omega (arith, normalize_relative_short spec, length-append (normalize_relative spec) (text "/"))
    by false = omega (arith, normalize_relative_short spec, length-append (normalize_relative spec) [])

-- a specifier of at most 512 bytes has a normalised one within the limit
normalized_built : (spec : Text)
    → length spec ≤ 512
    → and_path (limited spec) (λ p. limited (normalized_specifier p)) ≡ built (normalized_specifier spec)
unfolding limited
normalized_built spec h =
    let k : length (normalized_specifier spec) ≤ 2048 = omega (arith, normalized_next spec) in
    rw (le-leb (length spec) 2048 (omega arith), le-leb (length (normalized_specifier spec)) 2048 k)

module _ (spec : Text) {b : Built} (h : length spec ≤ 512)
    (e : b ≡ and_path (limited spec) (λ p. limited (normalized_specifier p))) where
  pub normalized_here : {p : Text} → b ≡ built p → p ≡ normalized_specifier spec
  normalized_here {p} f =
      let z : built p ≡ built (normalized_specifier spec) = sym f ∙ e ∙ normalized_built spec h in cc

  pub never_long : {X : Type 0} → b ≡ too_long → X
  never_long f = absurd
      (let z : built (normalized_specifier spec) ≡ too_long = sym (normalized_built spec h) ∙ sym e ∙ f in
      let q : ◌≡◌ {A = ℕ} 0 1 = cc in omega arith)

-- the subpath behind ".." is shorter than the specifier
pub climbing_subpath : (spec : Text)
    → length spec ≤ 512 → (v : Bool) → v ≡ equal (package_name (normalized_specifier spec)) (text "..")
    → v ≡ true → length (package_subpath (normalized_specifier spec)) ≤ 512
unfolding package_subpath
climbing_subpath spec h v e k =
    let name = package_name (normalized_specifier spec) in
    let n : length name ≡ 2 = ap length (equal_true _ _ (sym e ∙ k)) in
    omega (arith, normalized_next spec, length-drop (length name) (normalized_specifier spec))

-- the lookup: what follows where nothing was found
pub then_none : (G : Settings) (start spec : Text) {L : Listing Sees} {s s₁ : Tape} {r : Step Ending ⊥}
    → Done L (load_package G start spec >>= λ _. end (not_found spec)) s s₁ r → Done L (lookup G start spec) s s₁ r
unfolding lookup load_package ◌>>◌
then_none G start spec d = simp bind_bind at d
