-- `lookup::hannuvozh_lookup` meets its contract: it is `lookup` with a number for the case of the answer and with counts of
-- 32 bits, which hold the lengths of the texts (at most 6,157) and the consults (at most the limit).
use mathlib.Core.Path.{◌∙◌}
use native.Mathlib.Omega.{arith}
use Rattle.lookup.proofs.Lengths.{three_short, consults_short, counts_left}
use Rattle.lookup.proofs.hannuvozh_lookup.Goals as goal

pub overflow_cast-counts : goal.overflow_cast-counts
overflow_cast-counts c =
    omega (
      arith,
      three_short c.lookup-reply.result _ _ _ _ _ _ c.ending_of-ending.result
          c.lookup-reply.ensures c.ending_of-ending.ensures.lengths,
    )

pub overflow_cast-counts-2 : goal.overflow_cast-counts-2
overflow_cast-counts-2 c =
    omega (
      arith,
      three_short c.lookup-reply.result _ _ _ _ _ _ c.ending_of-ending.result
          c.lookup-reply.ensures c.ending_of-ending.ensures.lengths,
    )

pub overflow_cast-counts-3 : goal.overflow_cast-counts-3
overflow_cast-counts-3 c =
    omega (
      arith,
      three_short c.lookup-reply.result _ _ _ _ _ _ c.ending_of-ending.result
          c.lookup-reply.ensures c.ending_of-ending.ensures.lengths,
    )

pub overflow_cast-counts-4 : goal.overflow_cast-counts-4
overflow_cast-counts-4 c =
    omega (arith, consults_short c.lookup-reply.result _ _ _ _ _ _ c.lookup-reply.ensures, c.ranges.limit.fits)

pub returns : goal.returns
returns c =
    counts_left c.lookup-reply.result _ _ _ _ _ _ _ c.lookup-reply.ensures
    (c.from-2.ensures ∙ c.from.ensures ∙ c.ending_of-ending.ensures.number)
    c.ending_of-ending.ensures.lengths
