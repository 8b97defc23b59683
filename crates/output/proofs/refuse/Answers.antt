-- `output::refuse` meets its contract: zeros in each buffer.
use Rattle.definition.specs.Called.{zeros}
use Rattle.output.proofs.Filling.{zero_all}
use Rattle.output.proofs.refuse.Goals as goal

pub returns-clause-zeros : goal.returns-clause-zeros
unfolding zeros
returns-clause-zeros c w =
    let t = c.args.tape.now in
    rw (
      zero_all t.result.now _ c.zero_from.ensures,
      zero_all t.numbers.now _ c.zero_from-2.ensures,
      zero_all t.text.now _ c.zero_from-3.ensures,
    )
