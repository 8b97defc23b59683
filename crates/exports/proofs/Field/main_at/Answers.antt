-- The target's path has the text that its outcome has.
use Rattle.exports.proofs.Field.main_at.Goals as goal

pub returns-clause-texted : goal.returns-clause-texted
returns-clause-texted c = c.unless_nothing.ensures.texted _ c.target.ensures.texted
