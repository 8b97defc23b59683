-- The end that the code names is the definition's, by `Steps`.
use Rattle.definition.specs.Exports.{NotFound, failure_texts}
use Rattle.definition.specs.Walk.{not_found}
use Rattle.consults.specs.Ends.{failure_of}
use Rattle.consults.proofs.Steps.{done_finish, ends_failed}
use Rattle.consults.proofs.Tape.not_found.Goals as goal

pub returns-clause-done : goal.returns-clause-done
unfolding not_found failure_of failure_texts
returns-clause-done c L =
    done_finish (ends_failed (NotFound _)) _ _ _ c.finish.ensures.ending (rw c.finish.ensures.texts)
