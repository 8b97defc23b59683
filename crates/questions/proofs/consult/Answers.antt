-- The limit's end, and a question asked and noted.
use Rattle.std.proofs.Common.{arith}
use Rattle.questions.specs.Meaning.{question}
use Rattle.consults.proofs.Steps.{no_question}
use Rattle.questions.proofs.Questions.{done_asked}
use Rattle.questions.proofs.consult.Goals as goal

pub returns-then-tape-eq0-clause-done : goal.returns-then-tape-eq0-clause-done
unfolding question
returns-then-tape-eq0-clause-done c = λ G. rw c.refuse.ensures (no_question c.if-tape-eq0.true _ _)

pub returns-clause-done : goal.returns-clause-done
returns-clause-done c =
    λ G. done_asked G _ _ _ _ _ (omega arith)
    (rw c.search.ensures.entry at (c.state_of-state.ensures.state c.args.l.now))
    (rw c.search.ensures.entry at (c.state_of-state.ensures.number c.args.l.now))
    c.note.ensures.value
