-- The place of the condition is struck off the table.
use Rattle.std.proofs.Common.{length, sym, rules}
use Rattle.package_target.proofs.Conditions.{turn_taken}
use Rattle.package_target.proofs.ConditionList.take_turn.Goals as goal

pub returns : goal.returns
returns c k s h =
    rw (sym (c.in_ok-k.ensures.by_index k s h), c.then_some.ensures)
    (turn_taken (length c.args.m.now) c.args.values.now (search rules) c.in_ok-k.k c.in_ok-k.ensures.small)
