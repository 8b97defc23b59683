-- A text is below another where it rises to it.
use Rattle.std.proofs.Common.{◌∙◌, ap}
use Rattle.std.specs.Option.{is_some}
use Rattle.listing.proofs.Partings.{told}
use Rattle.listing.proofs.is_below.Goals as goal

pub returns : goal.returns
returns c = c.is_some.ensures ∙ (ap is_some c.rise.ensures ∙ told c.args.p.now c.args.q.now)
