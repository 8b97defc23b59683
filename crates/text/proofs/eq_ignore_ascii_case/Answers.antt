-- The library compares by the same lower case.
use Rattle.text.proofs.Words.{ignoring_is}
use Rattle.text.proofs.eq_ignore_ascii_case.Goals as goal

pub returns : goal.returns
returns c = ignoring_is _ _ _ c.eq_ignore_ascii_case.ensures.test
