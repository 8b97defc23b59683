-- The sum so far and the sum of the rest are the whole sum.
use Rattle.std.proofs.Common.{◌≡◌, ℕ, ◌+◌, ◌-◌, ◌*◌, drop, ◌∙◌, ap, arith}
use Rattle.definition.specs.Listing.{number32, contents_length}
use Rattle.laws.specs.ListingSteps.{path_length_at, contents_mark_at, lengths_next, lengths_end}
use Rattle.listing.proofs.Numbers.{number_part}
use Rattle.listing_rules.proofs.lengths.Goals as goal

pub loop-i-preserved : goal.loop-i-preserved
unfolding path_length_at contents_mark_at
loop-i-preserved c =
    let l = c.args.l.now in
    let i = c.loop-i.i in
    let j = 8 + 4 * i in
    let k = 8 + 4 * c.args.n + 4 * i in
    let p : c.read_number.result ≡ path_length_at l i =
    c.read_number.ensures.is ∙ number_part (drop j l) (j + 4 - j) (omega arith) in
    let m : c.read_number-c.result ≡ contents_mark_at l i =
    c.read_number-c.ensures.is ∙ number_part (drop k l) (k + 4 - k) (omega arith)
    ∙ ap (λ (n : ℕ). number32 (drop (8 + 4 * n + 4 * i) l)) c.requires.count in
    let d : c.contents_length.result ≡ contents_length (contents_mark_at l i) =
    c.contents_length.ensures.is ∙ ap contents_length m in
    let t = lengths_next l i (omega (arith, c.requires.count, c.loop-i-test.true)) in
    (omega arith, omega arith)

pub returns : goal.returns
returns c = omega (arith, lengths_end c.args.l.now c.loop-i.i (omega (arith, c.requires.count)))
