-- require(X) for a relative X: the code's steps as the definition's. Assumes nothing.
use mathlib.Core.Path.{◌≡◌}
use mathlib.Core.Bool.{true, false, ◌||◌}
use mathlib.Core.List.{[]}
use Rattle.definition.specs.Text.{Text, text, equal, ends_with}
use Rattle.definition.specs.Path.{Built, built, too_long, normalize_with}
use Rattle.definition.specs.Settings.{Settings}
use Rattle.definition.specs.Ask.{Listing, Step, go, stop, end, ◌>>=◌, ◌>>◌}
use Rattle.definition.specs.Walk.{Look, unless, never, under, bare, not_found, LOAD_AS_FILE}
use Rattle.definition.specs.Imports.{require_relative}
use Rattle.refusal.specs.declared.Refusal.TheVariants.{PathTooLong}
use Rattle.consults.specs.declared.Case.TheVariants.{Refused}
use Rattle.consults.specs.declared.Ending.{Ending}
use Rattle.consults.specs.Tape.{Tape, Done, done_ret, done_bind, done_stop}
use Rattle.consults.specs.Meaning.{Sees, ended_as}
use Rattle.directory.specs.Routines.{if_directory}
use Rattle.relative.specs.Routines.{unless_folder, directory_or_none}
use Rattle.consults.proofs.Ways.{bind_bind, made_long, made_fits}

-- LOAD_AS_FILE, or not
module _ (G : Settings) {L : Listing Sees} (x p : Text) where
  pub file_skipped : {s : Tape} → (equal x (text ".") || ends_with (text "/") x) ≡ true
      → Done L (unless_folder G x p) s s (go tt)
  unfolding unless_folder unless
  file_skipped e = rw e done_ret

  pub file_tried : {s s₁ : Tape} {t : Step Ending (Unit {0})} → (equal x (text ".") || ends_with (text "/") x) ≡ false
      → Done L (LOAD_AS_FILE G (bare p)) s s₁ t → Done L (unless_folder G x p) s s₁ t
  unfolding unless_folder unless
  file_tried e d = rw e d

-- LOAD_AS_DIRECTORY ended the lookup, or nothing was found
module _ (G : Settings) {L : Listing Sees} (x p : Text) {s s₁ : Tape} where
  pub directory_found : {y : Ending} → Done L (if_directory G (bare p)) s s₁ (stop y)
      → Done L (never (directory_or_none G x p)) s s₁ (stop y)
  unfolding never directory_or_none if_directory bare ◌>>◌
  directory_found {y} f =
      let z : Look ⊥ = end (not_found x) in
      let g : Done L (if_directory G (bare p) >>= λ _. z) s s₁ (stop y) = done_stop _ f in
      done_stop _ (rw bind_bind at g)

  pub none_found : {s₂ : Tape} {r : Ending} → Done L (if_directory G (bare p)) s s₁ (go tt)
      → Done {A = ⊥} L (end (not_found x)) s₁ s₂ (stop r) → Done L (never (directory_or_none G x p)) s s₂ (stop r)
  unfolding never directory_or_none if_directory bare ◌>>◌
  none_found {s₂} {r} f y =
      let z : Look ⊥ = end (not_found x) in
      let g : Done L (if_directory G (bare p) >>= λ _. z) s s₂ (stop r) = done_bind _ f y in
      done_stop _ (rw bind_bind at g)

-- the whole: the path is over-long, a file ended the lookup, or the directory's turn comes
module _ (G : Settings) {L : Listing Sees} (dir x : Text) {b : Built} (e : b ≡ normalize_with dir x) where
  pub relative_long : {s : Tape} → b ≡ too_long
      → Done L (never (require_relative G dir x)) s s (stop (ended_as (Refused PathTooLong) [] [] []))
  unfolding never require_relative under
  relative_long h = done_stop _ (made_long _ (rw e at h))

  module _ {p : Text} (h : b ≡ built p) {s s₁ : Tape} where
    pub relative_file : {y : Ending} → Done L (unless_folder G x p) s s₁ (stop y)
        → Done L (never (require_relative G dir x)) s s₁ (stop y)
    unfolding never require_relative unless_folder under ◌>>◌
    relative_file d = done_stop _ (made_fits _ (rw e at h) (done_stop _ d))

    pub relative_directory : {s₂ : Tape} {r : Step Ending (Unit {0})} → Done L (unless_folder G x p) s s₁ (go tt)
        → Done L (never (directory_or_none G x p)) s₁ s₂ r → Done L (never (require_relative G dir x)) s s₂ r
    unfolding never require_relative unless_folder under directory_or_none ◌>>◌
    relative_directory d g = rw bind_bind (made_fits _ (rw e at h) (rw bind_bind (done_bind _ d g)))
