-- Without work memory a refusal; a place with neither query nor fragment is a bare path.
use Rattle.definition.specs.Walk.{bare}
use Rattle.directory.proofs.Rooms.{is_done, is_lent, not_lent}
use Rattle.esm_match.proofs.resolve_in_context.Goals as goal

pub returns-in_err-work-clause-done : goal.returns-in_err-work-clause-done
returns-in_err-work-clause-done c =
    rw c.from_residual.ensures (not_lent _ _ _ c.first_chunk_mut.ensures.cases c.or_refuse.ensures c.in_err-work.was)

pub returns-clause-done : goal.returns-clause-done
returns-clause-done c =
    is_done _ (is_lent _ _ _ c.first_chunk_mut.ensures.cases c.or_refuse.ensures c.in_ok-work.was)
    c.resolve_with_texts.ensures.done

pub returns-then-context-eq0-2-clause-done : goal.returns-then-context-eq0-2-clause-done
unfolding bare
returns-then-context-eq0-2-clause-done c =
    is_done _ (is_lent _ _ _ c.first_chunk_mut.ensures.cases c.or_refuse.ensures c.in_ok-work.was)
    (rw (c.if-context-eq0-2.true, c.if-context-eq0.true) (rw c.bare.ensures at c.resolve_esm_match.ensures.done))
