-- A count is one byte.
use Rattle.std.proofs.Common.{length, ap, arith}
use Rattle.package_target.proofs.Conditions.{counted}
use Rattle.package_target.proofs.ConditionList.of.Goals as goal

pub invariant_of-result : goal.invariant_of-result
invariant_of-result c =
    record { few = omega (arith, counted c.args.settings.now, c.type_inv.settings 0, ap length c.texts.ensures) }
