-- By the string behind the quote.
use Rattle.json_text.proofs.Texts.{name_none, name_unquoted, name_other, name_read}
use Rattle.json_text.proofs.name_is.Goals as goal

pub returns-then-same_text : goal.returns-then-same_text
returns-then-same_text c =
    name_read c.args.m.now c.args.key.now c.args.at c.in-Some-eq34.ensures.left c.in-Some-eq34.field-0-test c.same_text.ensures c.if-same_text.true _ c.string.ensures c.is_ok.ensures.value

pub returns-else-same_text : goal.returns-else-same_text
returns-else-same_text c =
    name_other c.args.m.now c.args.key.now c.args.at c.in-Some-eq34.ensures.left c.in-Some-eq34.field-0-test c.same_text.ensures c.if-same_text.false

pub returns-in_default : goal.returns-in_default
returns-in_default c =
    name_unquoted c.args.m.now c.args.key.now c.args.at c.in_default.ensures.left c.in_default.field-0-test.1

pub returns-in_default-2 : goal.returns-in_default-2
returns-in_default-2 c = name_none c.args.m.now c.args.key.now c.args.at (rw c.in_default.is at c.byte_at.ensures.left)
