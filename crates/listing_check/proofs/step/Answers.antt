-- Each way out of the step breaks a rule, or goes on with the marks of the next path.
use Rattle.std.proofs.Common.{refl, sym, arith}
use Rattle.definition.specs.Text.{slash}
use Rattle.laws.specs.PathSteps.{last_inside}
use Rattle.listing_check.proofs.Rises.{risen}
use Rattle.listing_check.proofs.Steps.{named, unnamed, down, two_slashes, apart, unmarked, too_deep, onward}
use Rattle.listing_check.proofs.step.Goals as goal
use Rattle.listing_check.proofs.step.Goals.{then-slash-eq1-via-then-slash-eq1}
use Rattle.listing_check.proofs.step.Goals.{then-slash-eq1-via-else-slash-eq1+then-k-j}
use Rattle.listing_check.proofs.step.Goals.{then-slash-eq1-via-else-slash-eq1+else-k-j+then-v-eq0}
use Rattle.listing_check.proofs.step.Goals.{then-slash-eq1-via-else-slash-eq1+else-k-j+else-v-eq0+then-v-gt32}

pub returns-in_err-slash : goal.returns-in_err-slash
returns-in_err-slash c =
    let a = c.args in
    rw c.from_residual-in_err-slash.ensures (unnamed a.p.now a.q.now a.d a.m.now c.in_err-slash.ensures)

pub returns-in_err-j : goal.returns-in_err-j
returns-in_err-j c =
    let a = c.args in
    rw c.from_residual.ensures (down a.p.now a.q.now a.d a.m.now c.rise.ensures c.in_err-j.was)

pub bounds-m-k : goal.bounds-m-k
bounds-m-k c = omega (arith, (named c.args.q.now c.in_ok-slash.ensures).0, last_inside slash c.args.q.now)

pub returns-then-slash-eq1 : goal.returns-then-slash-eq1
returns-then-slash-eq1 c =
    let a = c.args in
    let n = named c.args.q.now c.in_ok-slash.ensures in
    let r = risen c.rise.ensures c.in_ok-j.was in
    let k = c.max-k.ensures in
    elim c.then-slash-eq1.branch [
      | then-slash-eq1-via-then-slash-eq1 w ↦ two_slashes a.p.now a.q.now a.d a.m.now _ n.0 n.2 w.if-slash-eq1.true
      | then-slash-eq1-via-else-slash-eq1+then-k-j w ↦
          apart a.p.now a.q.now a.d a.m.now _ n.0 n.2 w.if-slash-eq1.false _ k _ r w.if-k-j.true
      | then-slash-eq1-via-else-slash-eq1+else-k-j+then-v-eq0 w ↦
          unmarked a.p.now a.q.now a.d a.m.now _ n.0 n.2 w.if-slash-eq1.false _ k _ r w.if-k-j.false w.if-v-eq0.true
      | then-slash-eq1-via-else-slash-eq1+else-k-j+else-v-eq0+then-v-gt32 w ↦
          too_deep a.p.now a.q.now a.d a.m.now _ n.0 n.2 w.if-slash-eq1.false _ k _ r w.if-k-j.false w.if-v-eq0.false
          w.if-v-gt32.true
    ]

pub remark-requires-clause-behind : goal.remark-requires-clause-behind
remark-requires-clause-behind c = (risen c.rise.ensures c.in_ok-j.was).below

pub remark-requires-clause-shared : goal.remark-requires-clause-shared
remark-requires-clause-shared c = (risen c.rise.ensures c.in_ok-j.was).inside

pub returns : goal.returns
returns c =
    let a = c.args in
    let n = named c.args.q.now c.in_ok-slash.ensures in
    let r = risen c.rise.ensures c.in_ok-j.was in
    onward a.p.now a.q.now a.d a.m.now _ n.0 n.2 c.if-slash-eq1.false _ c.max-k.ensures _ r c.if-k-j.false
    c.if-v-eq0.false
    (sym n.1) refl c.if-v-gt32.false c.mark_of.ensures c.remark.ensures
