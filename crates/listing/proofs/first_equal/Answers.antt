-- Where none of the entries so far has the path, it is missing as soon as it is missing among the rest.
use Rattle.std.proofs.Common.{arith}
use Rattle.listing.proofs.Seek.{none_at_all}
use Rattle.listing.proofs.first_equal.Goals as goal

pub returns-then-spot : goal.returns-then-spot
returns-then-spot c =
    let v = c.loop-spot.invariant in
    let s = c.loop-spot.spot in
    let r = rw v.0.0 at s.reached in
    none_at_all c.args.first.listing.now c.args.path.now s.count s.index s.at r v.1 (rw v.0.0 at c.if-spot.true)
    (omega (arith, v.0.1, c.loop-spot-test.false))
