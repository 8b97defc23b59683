-- A question, and the end where it was answered by a file.
use Rattle.std.proofs.Common.{refl}
use Rattle.definition.specs.Walk.{when}
use Rattle.consults.specs.Tape.{done_bind, done_stop, done_ret}
use Rattle.consults.proofs.Steps.{ends_found, done_finish}
use Rattle.questions.proofs.Questions.{file_asked, file_state}
use Rattle.questions.proofs.try_file.Goals as goal

pub returns-in_err-state-clause-done : goal.returns-in_err-state-clause-done
returns-in_err-state-clause-done c =
    λ G. rw (c.from_residual.ensures, file_asked) (done_stop _ (c.in_err-state.ensures.done G))

pub returns-then-eq-clause-done : goal.returns-then-eq-clause-done
unfolding when
returns-then-eq-clause-done c =
    let e = c.finish.ensures in
    λ G. rw file_asked (done_bind _ (c.in_ok-state.ensures.done G)
    (rw (file_state _ (c.in_ok-state.ensures.not_read _ refl), ← c.if-eq.ensures)
    (done_finish (ends_found _) _ _ _ e.ending e.texts)))

pub returns-clause-done : goal.returns-clause-done
unfolding when
returns-clause-done c =
    λ G. rw file_asked (done_bind _ (c.in_ok-state.ensures.done G)
    (rw (file_state _ (c.in_ok-state.ensures.not_read _ refl), ← c.if-eq.ensures) done_ret))
