-- One entry of a listing whose sizes fit, by the numbers that are read for it.
use mathlib.Core.Path.{◌≡◌, ◌∙◌, ap}
use mathlib.Core.List.{List, ◌∷◌}
use Prim.Native.Nat.{ℕ, ◌+◌, ◌-◌, ◌*◌, ◌≤◌, ◌<◌}
use native.Mathlib.Omega.{arith}
use lib.ListN.{length, take, drop}
use lib.Dec.{eqb}
use Rattle.definition.specs.Listing.{number32, contents_length, directory_mark}
use Rattle.laws.specs.ListingSteps.{path_length_at, contents_mark_at, row_by, rows_at, Standing, standing_next}
use Rattle.laws.specs.ListingSteps.{standing_row, standing_inside}
use Rattle.listing.proofs.Numbers.{number_part}

module _ {l : List ℕ} {n i at : ℕ} (s : Standing l n i at) (h : i < n) {k c x : ℕ}
    (p : k ≡ number32 (take (8 + 4 * i + 4 - (8 + 4 * i)) (drop (8 + 4 * i) l)))
    (q : c ≡ number32 (take (8 + 4 * n + 4 * i + 4 - (8 + 4 * n + 4 * i)) (drop (8 + 4 * n + 4 * i) l)))
    (v : x ≡ contents_length c) where
  size : at + k ≡ at + path_length_at l i
  unfolding path_length_at
  size = ap (λ (n : ℕ). at + n) (p ∙ number_part (drop (8 + 4 * i) l) _ (omega arith))

  mark : c ≡ contents_mark_at l i
  unfolding contents_mark_at
  mark =
      q ∙ number_part (drop (8 + 4 * n + 4 * i) l) _ (omega arith)
      ∙ ap (λ (n : ℕ). number32 (drop (8 + 4 * n + 4 * i) l)) s.number

  next : at + k + x ≡ at + k + contents_length (contents_mark_at l i)
  next = ap (λ (n : ℕ). at + k + n) (v ∙ ap contents_length mark)

  pub stands_on : Standing l n (i + 1) (at + k + x)
  stands_on = standing_next l n i at _ _ s h size next

  pub next_row : rows_at l i at ≡ row_by l at (at + k) (at + k + x) (eqb c directory_mark) ∷ rows_at l (i + 1)
      (at + k + x)
  next_row = rw mark (standing_row l n i at _ _ s h size next)

  pub inside : at + k + x ≤ length l
  inside = standing_inside l n i at _ _ s h size next
