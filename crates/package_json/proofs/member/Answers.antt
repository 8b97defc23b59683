-- Where there is no first one, there is none.
use Rattle.definition.specs.JsonAt.{next_member, member_at}
use Rattle.package_json.proofs.Walks.{further_nothing}
use Rattle.package_json.proofs.member.Goals as goal

pub returns-in_err-first_member : goal.returns-in_err-first_member
unfolding member_at
returns-in_err-first_member c =
    rw c.from_residual.ensures (further_nothing next_member c.args.i c.in_err-first_member.ensures)
