-- `==` is the definition's equality.
use Rattle.std.proofs.Common.{◌∙◌}
use Rattle.text.proofs.Words.{equal_is}
use Rattle.text.proofs.equal.Goals as goal

pub returns : goal.returns
returns c = c.eq.ensures ∙ equal_is _ _
