-- Eight bytes are two numbers of four.
use Rattle.std.proofs.Common.{◌∙◌}
use Rattle.listing.proofs.Numbers.{eight_low}
use Rattle.listing.proofs.low.Goals as goal

pub returns : goal.returns
returns c = c.from_le_bytes.ensures ∙ eight_low c.args.s.now c.args.k
