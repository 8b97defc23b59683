-- Where there is no first one, there is none.
use Rattle.definition.specs.JsonAt.{next_element, element_at}
use Rattle.package_json.proofs.Walks.{further_nothing}
use Rattle.package_json.proofs.element.Goals as goal

pub returns-in_err-first_element : goal.returns-in_err-first_element
unfolding element_at
returns-in_err-first_element c =
    rw c.from_residual.ensures (further_nothing next_element c.args.i c.in_err-first_element.ensures)
