-- An over-long path has no text; else its text is tried.
use Rattle.refusal.specs.declared.Refusal.TheVariants.{PathTooLong}
use Rattle.questions.specs.Meaning.{try_path}
use Rattle.consults.proofs.Ways.{made_long, made_fits, wanted, had}
use Rattle.questions.proofs.try_path.Goals as goal

pub returns-in_err-text-clause-done : goal.returns-in_err-text-clause-done
unfolding try_path
returns-in_err-text-clause-done c G =
    let (long, is) = wanted _ _ PathTooLong _ c.as_slice.ensures c.or_refuse.ensures c.in_err-text.was in
    rw (c.from_residual.ensures, is) (made_long _ long)

pub returns-clause-done : goal.returns-clause-done
unfolding try_path
returns-clause-done c G =
    made_fits _ (had _ _ PathTooLong _ c.as_slice.ensures c.or_refuse.ensures c.in_ok-text.was)
    (rw c.at.ensures at (c.try_file.ensures.done G))
