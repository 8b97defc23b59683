-- What the loop has passed is zeros.
use Rattle.std.proofs.Common.{◌≡◌, take, replicate}
use Rattle.text.proofs.zero_from.Given as goal

abbrev pub invariant-loop-x : goal.invariant-loop-x
invariant-loop-x g l = take l.x-index l.x-items ≡ replicate l.x-index g.T.Zero.zero
