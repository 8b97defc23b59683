-- The four tests of the first part and of the text.
use Rattle.std.proofs.Common.{sym, arith}
use Rattle.std.proofs.lemmas.Grind.{common_steps}
use lib.Seq.{length-take-le}
use Rattle.definition.specs.Text.{slash}
use Rattle.laws.specs.TextSteps.{first_inside}
use Rattle.package_name.proofs.Bare.{bare_first}
use Rattle.package_name.proofs.is_bare.Goals as goal

pub slice_bounds-first-end : goal.slice_bounds-first-end
slice_bounds-first-end c = sym (length-take-le _ _ (first_inside slash _ 0 _ c.find.ensures (omega arith)))

pub returns-then-not-equal : goal.returns-then-not-equal
returns-then-not-equal c = let e = bare_first c.args.s.now _ c.find.ensures in grind (arith, common_steps)

pub returns-else-not-equal : goal.returns-else-not-equal
returns-else-not-equal c = let e = bare_first c.args.s.now _ c.find.ensures in grind (arith, common_steps)
