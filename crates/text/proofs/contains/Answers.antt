-- The library's `contains` is the definition's.
use Rattle.std.proofs.Common.{◌∙◌}
use Rattle.text.proofs.Words.{contains_is}
use Rattle.text.proofs.contains.Goals as goal

pub returns : goal.returns
returns c = c.contains.ensures.value ∙ contains_is _ _
