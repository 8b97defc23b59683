-- The library's `ends_with` is the definition's.
use Rattle.std.proofs.Common.{◌∙◌}
use Rattle.text.proofs.Words.{ends_is}
use Rattle.text.proofs.ends_with.Goals as goal

pub returns : goal.returns
returns c = c.ends_with.ensures.value ∙ ends_is _ _
