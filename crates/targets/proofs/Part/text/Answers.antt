-- A part of length 0 has no text, and any other is read from its string.
use Rattle.std.proofs.Common.{rules}
use Rattle.targets.proofs.Contexts.{part_read, no_part}
use Rattle.targets.proofs.Part.text.Goals as goal

pub returns-then-self-eq0 : goal.returns-then-self-eq0
returns-then-self-eq0 c = no_part c.args.manifest.now c.args.self c.if-self-eq0.true

pub returns : goal.returns
returns c =
    part_read c.args.manifest.now c.args.self _ _ c.read_text-text.result _ _ (search rules) c.read_text-text.ensures c.text_at.ensures
    c.of.ensures
