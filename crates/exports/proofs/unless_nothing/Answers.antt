-- An answer other than nothing ends the algorithm.
use Rattle.std.proofs.Common.{sym}
use Rattle.exports.proofs.Resolutions.{ended}
use Rattle.exports.proofs.unless_nothing.Goals as goal

pub returns-else-is_nothing-clause-value : goal.returns-else-is_nothing-clause-value
returns-else-is_nothing-clause-value c m url subpath path go =
    ended m url subpath path c.args.r go (sym c.if-is_nothing.ensures)
