use mathlib.Core.Path.{◌≡◌, ◌∙◌, ap}
use Prim.Native.Nat.{ℕ, ◌+◌, ◌*◌, min}
use native.Mathlib.Omega.{arith}
use lib.ListN.{length, drop}
use Rattle.definition.specs.Listing.{number32, contents_length}
use Rattle.laws.specs.ListingSteps.{path_length_at, contents_mark_at, rows_place}
use Rattle.listing.proofs.clamped.Goals as goal

pub returns : goal.returns
unfolding path_length_at contents_mark_at
returns c =
    let a = c.args in
    let l = a.l.now in
    let k : c.number-k.result ≡ path_length_at l a.i = c.number-k.ensures.is in
    let m : c.number-c.result ≡ contents_mark_at l a.i = c.number-c.ensures.is
    ∙ ap (λ (n : ℕ). number32 (drop (8 + 4 * n + 4 * a.i) l)) c.requires.0 in
    let e : c.reach-end.result ≡ min (a.at + path_length_at l a.i) (length l) =
    c.reach-end.ensures ∙ ap (λ (n : ℕ). min (a.at + n) (length l)) k in
    let d : c.contents_length.result ≡ contents_length (contents_mark_at l a.i) = c.contents_length.ensures.is
    ∙ ap contents_length m in
    let x : c.reach-next.result ≡ min (c.reach-end.result + contents_length (contents_mark_at l a.i)) (length l) =
    c.reach-next.ensures ∙ ap (λ (n : ℕ). min (c.reach-end.result + n) (length l)) d in
    record {
      starts = omega (arith, c.requires.3);
      ends = omega arith;
      inside = omega arith;
      rows = rw m (rows_place l a.i a.at _ _ (omega (arith, c.requires.0, c.requires.2)) c.requires.3 e x);
    }
