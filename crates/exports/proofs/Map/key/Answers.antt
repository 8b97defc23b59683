-- The buffer has room for each string.
use Rattle.std.proofs.Common.{◌∙◌, rules}
use Rattle.targets.proofs.Contexts.{text_read}
use Rattle.exports.proofs.Map.key.Goals as goal

pub returns : goal.returns
returns c = c.string_at.ensures ∙ text_read _ _ (search rules)
