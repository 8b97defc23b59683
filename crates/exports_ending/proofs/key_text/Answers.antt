-- A key that stands in the manifest is a string there.
use mathlib.Core.Path.{◌∙◌}
use Rattle.std.proofs.Common.{rules}
use Rattle.targets.proofs.Contexts.{text_read}
use Rattle.exports_ending.proofs.key_text.Goals as goal

pub returns-in-At : goal.returns-in-At
returns-in-At c = rw c.in-At.is (c.string_at.ensures ∙ text_read _ _ (search rules))
