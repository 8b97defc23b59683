-- RESOLVE_ESM_MATCH: the code's steps as the definition's. Assumes nothing.
use Rattle.definition.specs.Text.{Text}
use Rattle.definition.specs.Ask.{Listing, go, stop, end, ◌>>=◌, ◌>>◌}
use Rattle.definition.specs.Manifest.{Place}
use Rattle.definition.specs.Settings.{Settings}
use Rattle.definition.specs.Walk.{Look, never, not_found, LOAD_AS_FILE, RESOLVE_ESM_MATCH}
use Rattle.consults.specs.declared.Ending.{Ending}
use Rattle.consults.specs.Tape.{Tape, Done, done_bind, done_stop}
use Rattle.consults.specs.Meaning.{Sees}
use Rattle.directory.specs.Routines.{if_directory}
use Rattle.consults.proofs.Ways.{bind_bind}

module _ (G : Settings) (spec : Text) (w : Place) {L : Listing Sees} {s s₁ : Tape} where
  -- a file ended the lookup
  pub match_file : {x : Ending} → Done L (LOAD_AS_FILE G w) s s₁ (stop x)
      → Done L (never (RESOLVE_ESM_MATCH G spec w)) s s₁ (stop x)
  unfolding never RESOLVE_ESM_MATCH ◌>>◌
  match_file d = done_stop _ (done_stop _ d)

  -- or a directory did, or nothing was found
  module _ (d : Done L (LOAD_AS_FILE G w) s s₁ (go tt)) {s₂ : Tape} where
    pub match_directory : {x : Ending} → Done L (if_directory G w) s₁ s₂ (stop x)
        → Done L (never (RESOLVE_ESM_MATCH G spec w)) s s₂ (stop x)
    unfolding never RESOLVE_ESM_MATCH if_directory ◌>>◌
    match_directory {x} f =
        let z : Look ⊥ = end (not_found spec) in
        let g : Done L (if_directory G w >>= λ _. z) s₁ s₂ (stop x) = done_stop _ f in
        done_stop _ (done_bind _ d (rw bind_bind at g))

    pub match_none : {s₃ : Tape} {r : Ending} → Done L (if_directory G w) s₁ s₂ (go tt)
        → Done {A = ⊥} L (end (not_found spec)) s₂ s₃ (stop r)
        → Done L (never (RESOLVE_ESM_MATCH G spec w)) s s₃ (stop r)
    unfolding never RESOLVE_ESM_MATCH if_directory ◌>>◌
    match_none {s₃} {r} f y =
        let z : Look ⊥ = end (not_found spec) in
        let g : Done L (if_directory G w >>= λ _. z) s₁ s₃ (stop r) = done_bind _ f y in
        done_stop _ (done_bind _ d (rw bind_bind at g))
