-- `spread` keeps the length, and its numbers stand between the first two and the zeros.
use native.Mathlib.Omega.{arith}
use lib.ListN.{length-set}
use Rattle.output.proofs.Filling.{numbers_done}
use Rattle.output.proofs.finish_numbers.Goals as goal

pub bounds-nums-1 : goal.bounds-nums-1
bounds-nums-1 c = simp length-set (omega (arith, c.spread.auto.nums))

pub returns : goal.returns
returns c l a b g =
    let s = c.spread in
    let p = c.requires in
    numbers_done l _ _ _ _ _ a b p.0 g s.auto.nums s.ensures c.zero_from.ensures
