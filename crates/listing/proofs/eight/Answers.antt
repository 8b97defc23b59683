-- The library's number of eight bytes, the first the highest, is that of the meaning.
use Rattle.std.proofs.Common.{◌∙◌}
use Rattle.listing.proofs.Numbers.{eight_high}
use Rattle.listing.proofs.eight.Goals as goal

pub returns : goal.returns
returns c = c.from_be_bytes.ensures ∙ eight_high c.args.s.now c.args.k
