-- A question, and what its state answers.
use Rattle.consults.specs.Tape.{done_bind, done_stop, done_ret}
use Rattle.questions.proofs.Questions.{dir_asked, dir_state}
use Rattle.questions.proofs.is_directory.Goals as goal

pub returns-in_err-state-clause-done : goal.returns-in_err-state-clause-done
returns-in_err-state-clause-done c =
    λ G. rw (c.from_residual.ensures, dir_asked) (done_stop _ (c.in_err-state.ensures.done G))

pub returns-clause-done : goal.returns-clause-done
returns-clause-done c =
    λ G. rw (c.eq.ensures, dir_state, dir_asked) (done_bind _ (c.in_ok-state.ensures.done G) done_ret)
