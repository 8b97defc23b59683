-- The manifest has no name, the specifier does not begin with it, or the exports follow.
use mathlib.Core.Path.{◌∙◌, ap}
use mathlib.Core.Option.{some}
use native.Mathlib.Omega.{arith}
use lib.ListN.{length, length-drop}
use Rattle.package_exports.proofs.Fields.{self_nameless, self_other, self_named}
use Rattle.package_exports.proofs.in_scope.Goals as goal

pub returns-in_default-clause-done : goal.returns-in_default-clause-done
returns-in_default-clause-done c = self_nameless _ _ _ _ (rw c.in_default.is at c.text_field.ensures)

pub returns-in_default-strip_package_name-clause-done : goal.returns-in_default-strip_package_name-clause-done
returns-in_default-strip_package_name-clause-done c =
    self_other _ _ _ _ _ (rw c.in-Some.is at c.text_field.ensures)
    (rw c.in_default-strip_package_name.is at c.strip_package_name.ensures)

pub by_exports-requires : goal.by_exports-requires
by_exports-requires c =
    omega (arith, c.requires, ap length c.tail.ensures, length-drop c.in-Some-strip_package_name.n c.args.spec.now)

pub returns-clause-done : goal.returns-clause-done
returns-clause-done c =
    let tail = ap some c.tail.ensures ∙ (rw c.in-Some-strip_package_name.is at c.strip_package_name.ensures) in
    self_named _ _ _ _ _ (rw c.in-Some.is at c.text_field.ensures) _ tail c.by_exports.ensures.done
