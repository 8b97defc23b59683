-- By the definition's readers of no more entries.
use mathlib.Core.Path.{sym, ◌∙◌}
use Rattle.json_value.proofs.Loops.{extra_begins, extra_other, extra_end}
use Rattle.json_value.proofs.Bracket.extra.Goals as goal

pub returns-in-Some : goal.returns-in-Some
returns-in-Some c v =
    extra_begins v c.args.m.now c.args.at c.args.self _ _ c.in-Some.ensures.left (sym c.begins.ensures ∙ c.if-begins.true)

pub returns-in_default : goal.returns-in_default
returns-in_default c v =
    extra_other v c.args.m.now c.args.at c.args.self _ _ c.in-Some.ensures.left (sym c.begins.ensures ∙ c.if-begins.false)

pub returns-in_default-2 : goal.returns-in_default-2
returns-in_default-2 c v = extra_end v c.args.m.now c.args.at c.args.self c.in_default.ensures.left
