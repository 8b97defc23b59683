-- The number stands in the second table.
use Rattle.std.proofs.Common.{◌≡◌, ℕ, ◌+◌, ◌-◌, ◌*◌, length, take, drop, ◌∙◌, ap, arith, take_all, length-drop}
use Rattle.std.proofs.Common.{drop-drop}
use Rattle.definition.specs.Listing.{number32}
use Rattle.laws.specs.ListingSteps.{contents_mark_at}
use Rattle.listing.proofs.spot.Spot.mark.Goals as goal

pub number_at-requires : goal.number_at-requires
number_at-requires c =
    let s = c.args.self in
    omega (arith, s.reached.tables, c.requires)

pub returns-clause-is : goal.returns-clause-is
unfolding contents_mark_at
returns-clause-is c =
    let s = c.args.self in
    let l = s.listing.now in
    let k = 8 + 4 * s.count in
    let rest : take (length l - k) (drop k l) ≡ drop k l =
    take_all (length l - k) (drop k l) (omega (arith, length-drop k l)) in
    c.number_at.ensures.is
    ∙ ap (λ t. number32 (drop (4 * s.index) t)) rest
    ∙ ap number32 (drop-drop (4 * s.index) k l)
    ∙ ap (λ (n : ℕ). number32 (drop (8 + 4 * n + 4 * s.index) l)) s.reached.count
