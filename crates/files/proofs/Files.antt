-- LOAD_AS_FILE and LOAD_INDEX: the code's paths as the definition's. Assumes nothing.
use mathlib.Core.Path.{◌≡◌, refl, sym, ◌∙◌}
use mathlib.Core.Bool.{Bool, true, false}
use mathlib.Core.List.{◌++◌}
use Prim.Native.Nat.{◌≤◌, ◌<◌}
use native.Mathlib.Omega.{arith}
use borrow.Author.Tests.{lt-leb, leb-false}
use lib.Dec.{leb}
use lib.ListN.{length, length-append}
use Rattle.std.specs.Prelude.{if◌then◌else◌}
use Rattle.definition.specs.Text.{Text, text}
use Rattle.definition.specs.Path.{Built, built, too_long, and_path, limited, add_extension, add_name_and_extension}
use Rattle.definition.specs.Settings.{Settings}
use Rattle.definition.specs.Ask.{Listing, Step}
use Rattle.definition.specs.Manifest.{Place}
use Rattle.definition.specs.Walk.{try_extension, try_index}
use Rattle.consults.specs.declared.Ending.{Ending}
use Rattle.consults.specs.Tape.{Tape, Done}
use Rattle.consults.specs.Meaning.{Sees}
use Rattle.questions.specs.Meaning.{try_path}

-- a longer text is over the limit where the shorter is
limited_longer : (p q : Text) → length p ≤ length q → and_path (limited p) (λ _. limited q) ≡ limited q
unfolding limited
limited_longer p q h = by (leb (length p) 2048) refl
  where
    by : (t : Bool) → leb (length p) 2048 ≡ t → and_path (if t then built p else too_long) (λ _. limited q) ≡ limited q
    by true e = refl
    by false e =
        let k : 2048 < length p = leb-false _ _ e in let j : 2048 < length q = omega arith in sym (rw (lt-leb _ _ j))

built_limited : (p : Text) (f : Text → Built) → and_path (limited p) f ≡ and_path (limited p) (λ _. f p)
unfolding limited
built_limited p f = by (leb (length p) 2048)
  where
    by : (t : Bool) → and_path (if t then built p else too_long) f ≡ and_path (if t then built p else too_long)
        (λ _. f p)
    by true = refl
    by false = refl

module _ (G : Settings) {L : Listing Sees} (w : Place) (b : Built) {s s' : Tape} {r : Step Ending (Unit {0})}
    (d : Done L (try_path G w b) s s' r) where
  -- an extension behind the path, and a main file in the directory
  pub extension_tried : (x : Text) → b ≡ and_path (limited w.path) (λ u. add_extension u x)
      → Done L (try_extension G w x) s s' r
  unfolding try_extension try_path add_extension
  extension_tried x e =
      rw (e ∙ built_limited w.path _ ∙ limited_longer w.path (w.path ++ x) (omega (arith, length-append w.path x))) at d

  pub index_tried : (n x : Text) → b ≡ and_path (limited w.path) (λ u. add_name_and_extension u n x)
      → Done L (try_index G w n x) s s' r
  unfolding try_index try_path add_name_and_extension
  index_tried n x e =
      let p = w.path in
      rw (e ∙ built_limited p _ ∙ limited_longer p _
      (omega (
        arith,
        length-append p (text "/"),
        length-append (p ++ text "/") n,
        length-append
            (p ++ text "/" ++ n) x,
      ))) at d
