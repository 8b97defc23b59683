-- A slash, and the part behind it.
use Rattle.std.proofs.Common.{◌∙◌}
use Rattle.path.proofs.Steps.{push_put}
use Rattle.path.proofs.PathBuf.join.Goals as goal

pub returns : goal.returns
returns c = c.put.ensures ∙ rw c.slash.ensures (push_put _ _)
