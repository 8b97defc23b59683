-- The name stands in front, and what is behind it says whether it is whole.
use Rattle.std.proofs.Common.{◌∙◌, sym}
use Rattle.definition.specs.Specifier.{strip_package_name}
use Rattle.package_name.proofs.Parts.{prefix_is, strip_is}
use Rattle.package_name.proofs.strip_package_name.Goals as goal

pub returns-in_err-tail : goal.returns-in_err-tail
unfolding strip_package_name
returns-in_err-tail c =
    rw (c.from_residual.ensures, sym (prefix_is c.args.s.now c.args.name.now) ∙ c.in_err-tail.ensures.cases)

pub returns : goal.returns
returns c =
    let h = c.in_ok-tail.ensures.cases in
    rw c.then_some.ensures
    (strip_is c.args.s.now c.args.name.now _ _ (sym (prefix_is c.args.s.now c.args.name.now) ∙ h.0) h.1
    c.ends_name.ensures)
