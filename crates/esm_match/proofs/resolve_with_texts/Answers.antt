-- The two texts are those of the parts.
use Rattle.esm_match.proofs.resolve_with_texts.Goals as goal

pub returns-clause-done : goal.returns-clause-done
returns-clause-done c = rw (c.text.ensures, c.text-2.ensures) at c.resolve_esm_match.ensures.done
