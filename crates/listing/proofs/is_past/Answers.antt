-- A path past the one sought, with no equal one before it, means none.
use Rattle.std.proofs.Common.{sym, ◌∙◌, arith}
use Rattle.listing.proofs.Seek.{past_here}
use Rattle.listing.proofs.is_past.Goals as goal

pub returns-then-end-l : goal.returns-then-end-l
returns-then-end-l c =
    let s = c.args.spot in
    λ e. past_here s.listing.now c.args.path.now s.count s.index s.at _ s.reached c.requires c.end-end.ensures.is
    (omega arith)
    (sym c.is_below.ensures ∙ e)
