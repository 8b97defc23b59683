-- The loop's invariant: the first i numbers have been spread.
use mathlib.Core.Path.{◌≡◌, refl, sym, ◌∙◌}
use Prim.Native.Nat.{◌+◌, ◌<◌}
use native.Mathlib.Omega.{arith}
use lib.ListN.{get_or, length-set}
use borrow.Author.Rules.{rules}
use Rattle.output.proofs.Spreading.{spread_start, spread_end, packed_at, spread_here, spread_step}
use Rattle.output.proofs.spread.Goals as goal

pub loop-i-init : goal.loop-i-init
loop-i-init c = (search rules, refl, sym (spread_start _ _))

pub bounds-nums-i-in-loop-i : goal.bounds-nums-i-in-loop-i
bounds-nums-i-in-loop-i c = simp length-set (omega arith)

pub loop-i-preserved : goal.loop-i-preserved
loop-i-preserved c =
    let l = c.loop-i in
    let a = c.args in
    let more : l.i < a.count = omega arith in
    let here : get_or l.nums (2 + l.i) 0 ≡ packed_at a.count a.nums.now l.i =
    rw l.invariant.2 (spread_here a.count a.nums.now c.requires l.i more) in (
      search rules,
      simp length-set l.invariant.1,
      rw (here, l.invariant.2) (spread_step a.count a.nums.now c.requires l.i more),
    )

pub returns : goal.returns
returns c =
    let a = c.args in
    let e : c.loop-i.i ≡ a.count = omega arith in
    c.loop-i.invariant.2 ∙ rw e (spread_end a.count a.nums.now c.requires)
