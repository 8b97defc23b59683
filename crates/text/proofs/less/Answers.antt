-- `<` is the definition's order.
use Rattle.std.proofs.Common.{◌∙◌}
use Rattle.text.proofs.Words.{smaller_is}
use Rattle.text.proofs.less.Goals as goal

pub returns : goal.returns
returns c = c.lt.ensures ∙ smaller_is _ _
