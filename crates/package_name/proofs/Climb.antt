-- The specifier of the second walk. Assumes nothing.
use mathlib.Core.Path.{◌≡◌, refl, sym, ◌∙◌, ap}
use Prim.Native.Nat.{ℕ}
use mathlib.Core.Bool.{Bool, true, false}
use mathlib.Core.List.{List, [], ◌++◌, append-nil}
use borrow.Author.Tests.{leb-true, leb-false}
use lib.Dec.{leb}
use lib.ListN.{length}
use Rattle.definition.specs.Text.{text, ends_with}
use Rattle.definition.specs.Path.{Built, built, and_path, limited, add_extension, normalize_relative}
use Rattle.laws.specs.PathLaws.{limited_fits, limited_long}
use Rattle.definition.specs.Specifier.{normalized_specifier}
use Rattle.path.specs.Meaning.{path_at}
use Rattle.path.proofs.Steps.{text_short}

module _ (s : List ℕ) (x : Built) (e : x ≡ and_path (limited s) (λ q. built (normalize_relative q))) where
  pub slash_kept : ends_with (text "/") s ≡ true
      → and_path x (λ p. add_extension p (text "/")) ≡ and_path (limited s) (λ p. limited (normalized_specifier p))
  unfolding normalized_specifier add_extension
  slash_kept h = go (leb (length s) 2048) refl
    where
      go : (u : Bool) → leb (length s) 2048 ≡ u
          → and_path x (λ p. add_extension p (text "/")) ≡ and_path (limited s) (λ p. limited (normalized_specifier p))
      go true k = let l = limited_fits s (leb-true _ _ k) in rw (e, l, h)
      go false k = let l = limited_long s (leb-false _ _ k) in rw (e, l)

pub no_slash : (s b : List ℕ) (n : ℕ) → path_at b n ≡ and_path (limited s) (λ q. built (normalize_relative q))
    → ends_with (text "/") s ≡ false → path_at b n ≡ and_path (limited s) (λ p. limited (normalized_specifier p))
unfolding normalized_specifier
no_slash s b n e h = go (leb (length s) 2048) refl
  where
    go : (u : Bool) → leb (length s) 2048 ≡ u
        → path_at b n ≡ and_path (limited s) (λ p. limited (normalized_specifier p))
    go true k =
        let l = limited_fits s (leb-true _ _ k) in
        let f : path_at b n ≡ built (normalize_relative s) = rw l at e in
        let g : limited (normalize_relative s ++ []) ≡ built (normalize_relative s) =
        ap limited (append-nil (normalize_relative s))
        ∙ limited_fits (normalize_relative s) (text_short b n (normalize_relative s) f) in
        rw (l, h) (f ∙ sym g)
    go false k = let l = limited_long s (leb-false _ _ k) in rw l (rw l at e)
