-- The chain gives the last place that passes its test.
use Rattle.std.proofs.Common.{rules, ◌∙◌}
use Rattle.text.proofs.Words.{last_is}
use Rattle.text.proofs.rfind.Goals as goal

pub returns : goal.returns
returns c = c.unwrap_or.ensures ∙ last_is c.args.b c.args.s.now c.rposition.result (search rules)
