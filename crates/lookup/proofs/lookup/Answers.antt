-- `lookup::lookup` meets its contract, by the laws of `output::Filling`.
use Rattle.output.proofs.Filling.{zero_all}
use Rattle.lookup.proofs.lookup.Goals as goal

pub returns : goal.returns
returns c =
    let r = c.resolve_into-reply in
    rw (
      zero_all r.new.work _ c.zero_from.ensures,
      r.auto.work,
    ) r.ensures
