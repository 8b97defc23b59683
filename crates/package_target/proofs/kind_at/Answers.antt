-- The kind that stands there, or none where no value stands there.
use Rattle.std.proofs.Common.{◌∙◌}
use Rattle.package_target.proofs.Places.{kind_is}
use Rattle.package_target.proofs.kind_at.Goals as goal

pub returns : goal.returns
returns c d j h = c.unwrap_or.ensures ∙ kind_is c.args.m.now c.args.at c.kind_at.result c.kind_at.ensures d j h
