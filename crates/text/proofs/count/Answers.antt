-- A byte counts where it is b.
use Rattle.std.proofs.Common.{arith}
use Rattle.laws.specs.TextSteps.{count_end, count_here, count_not}
use Rattle.text.proofs.count.Goals as goal
use Rattle.text.proofs.count.Goals.{then-x-b, else-x-b}

pub loop-x-preserved : goal.loop-x-preserved
loop-x-preserved c =
    let b = c.args.b in
    let s = c.args.s.now in
    let i = c.loop-x.x-index in
    elim c.if-x-b.branch [ then-x-b w ↦ omega (arith, count_here b s i c.loop-x-test.true w.if-x-b.true) | else-x-b w ↦ omega (arith, count_not b s i c.loop-x-test.true w.if-x-b.false) ]

pub returns : goal.returns
returns c = omega (arith, count_end c.args.b c.args.s.now c.loop-x.x-index c.loop-x-test.false)
