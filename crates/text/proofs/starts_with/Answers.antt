-- The library's `starts_with` is the definition's.
use Rattle.std.proofs.Common.{◌∙◌}
use Rattle.text.proofs.Words.{starts_is}
use Rattle.text.proofs.starts_with.Goals as goal

pub returns : goal.returns
returns c = c.starts_with.ensures.value ∙ starts_is _ _
