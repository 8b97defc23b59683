-- Each word is read as it is told, and each window begins in the one before it or right behind it.
use Rattle.std.proofs.Common.{arith}
use Rattle.listing.proofs.words.Words.of.Goals as goal

pub invariant_of-result : goal.invariant_of-result
invariant_of-result c =
    record {
      windows =
          record {
            low8 = omega (arith, c.window-b.ensures, c.window-c.ensures, c.window-d.ensures);
            high16 = omega (arith, c.window-b.ensures, c.window-c.ensures, c.window-d.ensures);
            low16 = omega (arith, c.window-b.ensures, c.window-c.ensures, c.window-d.ensures);
            high24 = omega (arith, c.window-b.ensures, c.window-c.ensures, c.window-d.ensures);
            low24 = omega (arith, c.window-b.ensures, c.window-c.ensures, c.window-d.ensures);
          };
    }

pub returns : goal.returns
returns c =
    record {
      bytes = λ i. omega (arith, c.type_inv.q i);
      is_start = c.low_or_zero.ensures;
      is_next = c.low_or_zero-2.ensures;
      first = c.eight_or_zero.ensures;
      second = c.eight_or_zero-2.ensures;
      third = c.eight_or_zero-3.ensures;
      fourth = c.eight_or_zero-4.ensures;
    }
