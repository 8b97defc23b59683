-- One key more, or none is left.
use Rattle.exports.proofs.Objects.{best_start, best_on, best_end}
use Rattle.exports.proofs.Map.best.Goals as goal

pub loop-member-init : goal.loop-member-init
loop-member-init c ms h =
    let start = c.members-member-items.ensures in
    rw c.into_iter-member-iterator.ensures.into_iter_gives
    (best_start c.args.self.manifest.now c.args.match_key.now c.args.self.at ms _ start.manifest start.are h)

pub loop-member-preserved : goal.loop-member-preserved
loop-member-preserved c ms h =
    best_on (c.loop-member.invariant ms h) c.in-Some.ensures.steps c.better-best.result c.better-best.ensures

pub returns : goal.returns
returns c ms h = best_end (c.loop-member.invariant ms h) c.in-None.ensures.steps
