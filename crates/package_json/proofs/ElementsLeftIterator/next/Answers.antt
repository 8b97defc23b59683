-- The place that was next comes, and the next one stands behind it.
use Rattle.std.proofs.Common.{refl, ap, arith}
use Rattle.definition.specs.JsonAt.{next_element}
use Rattle.package_json.specs.Cursors.{placed}
use Rattle.package_json.proofs.Parts.{none_over, none_there, one_there}
use Rattle.package_json.proofs.ElementsLeftIterator.next.Goals as goal

pub returns-in_err-self-clause-steps : goal.returns-in_err-self-clause-steps
returns-in_err-self-clause-steps c =
    rw c.from_residual.ensures (none_over next_element c.args.self.now.left _ (omega (arith, c.in_err-self.ensures)))

pub returns-in_err-here-clause-steps : goal.returns-in_err-here-clause-steps
returns-in_err-here-clause-steps c =
    rw c.from_residual-in_err-here.ensures
    (none_there next_element c.args.self.now.left _ (ap (placed c.args.self.now.manifest.now) c.in_err-here.was))

pub returns-clause-steps : goal.returns-clause-steps
returns-clause-steps c = record {
  manifest = refl;
  first =
      one_there next_element c.args.self.now.left _ c.in_ok-self.field-0 (omega (arith, c.in_ok-self.ensures))
      (ap (placed c.args.self.now.manifest.now) c.in_ok-here.was) c.next_element-self.ensures;
}
