-- Each length is a byte.
use Rattle.std.proofs.Common.{◌≡◌, ℕ, ◌≤◌, sum, arith, rules}
use Rattle.std.specs.List.{All}
use Rattle.std.proofs.lemmas.List.{get_or_default}
use Rattle.std.proofs.lemmas.List.Sums.{sum_by-le}
use Rattle.settings.proofs.total.Goals as goal

pub returns-clause-small : goal.returns-clause-small
returns-clause-small c =
    let ns = c.args.lengths.now in
    let bytes : All (λ (n : ℕ). n ≤ 255) ns =
    λ k d h. rw (get_or_default ns k d 0 h) (omega (arith, c.type_inv.lengths k)) in
    let whole : c.sum.result ≡ sum ns = search rules in
    omega (arith, sum_by-le (λ n. n) 255 ns bytes)
