-- One of the windows is the text, or none is.
use Rattle.std.proofs.Common.{rules, eq-eqb, sym, ◌∙◌}
use Rattle.text.proofs.Words.{occurs_is, occurs_empty}
use Rattle.text.proofs.contains_text.Goals as goal

pub returns-then-t-eq0 : goal.returns-then-t-eq0
returns-then-t-eq0 c = eq-eqb _ _ c.if-t-eq0.true ∙ sym (occurs_empty _ _ c.if-t-eq0.true)

pub returns-else-t-eq0 : goal.returns-else-t-eq0
returns-else-t-eq0 c = occurs_is c.args.t.now c.args.s.now c.any.result c.if-t-eq0.false (search rules) (search rules)
