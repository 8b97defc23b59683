-- What was looked at from behind has no "/", and is plain as long as the flag says so.
use Rattle.std.proofs.Common.{◌≡◌, true, false, drop, length}
use Rattle.definition.specs.Text.{slash, contains}
use Rattle.listing_rules.specs.Meaning.{Plain}
use Rattle.listing_rules.proofs.slash_before_name.Given as goal

abbrev pub invariant-loop-i : goal.invariant-loop-i
invariant-loop-i l = (l.slash ≡ length l.q) × (contains slash (drop l.i l.q) ≡ false)
    × (l.plain ≡ true → Plain (drop l.i l.q))
