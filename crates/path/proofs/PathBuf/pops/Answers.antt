-- The definition's two tests of the path's text.
use Rattle.std.proofs.Common.{rules}
use Rattle.path.proofs.Steps.{pops_is}
use Rattle.path.proofs.PathBuf.pops.Goals as goal

pub returns : goal.returns
returns c = pops_is _ _ _ c.as_slice.ensures (search rules)
