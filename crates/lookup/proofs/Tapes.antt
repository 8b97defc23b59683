-- What a lookup leaves on the tape: its list, its texts and its counts, as far as the buffers reach.
use mathlib.Core.Path.{◌≡◌, refl, sym, ◌∙◌}
use mathlib.Core.Bool.{Bool, true, false}
use mathlib.Core.List.{List, [], ◌∷◌, map}
use Prim.Native.Nat.{ℕ, suc, ◌+◌, ◌≤◌, min}
use native.Mathlib.Omega.{arith}
use borrow.Author.Tests.{ltb-true, ltb-false}
use lib.Dec.{ltb}
use lib.ListN.{length, set, length-append}
use lib.Seq.{set_out}
use Rattle.definition.specs.Text.{overwrite}
use Rattle.laws.specs.TextSteps.{overwrite_here, overwrite_nil, overwrite_past}
use Rattle.definition.specs.Ask.{Consult}
use Rattle.definition.specs.Called.{joined, paths}
use Rattle.consults.specs.Tape.{Tape, most, put, written}
use Rattle.consults.proofs.Laws.{overwrite_append}
use Rattle.output.specs.Walked.{packed_of}

-- one number at a place, and more behind it
overwrite_set : (at x : ℕ) (t d : List ℕ) → overwrite (suc at) t (set d at x) ≡ overwrite at (x ∷ t) d
overwrite_set at x t d = by (ltb at (length d)) refl
  where
    by : (u : Bool) → ltb at (length d) ≡ u → overwrite (suc at) t (set d at x) ≡ overwrite at (x ∷ t) d
    by true e = sym (overwrite_here at x t d (ltb-true _ _ e))
    by false e =
        let h : length d ≤ at = ltb-false _ _ e in
        rw (set_out d at x h, overwrite_past at (x ∷ t) d h) (overwrite_past (suc at) t d (omega arith))

pub record Noted (t : Tape) (l : List Consult) : Type 0 where
  pub count : (written t l).count ≡ t.count + length l
  pub size : (written t l).size ≡ min (t.size + length (joined (paths l))) most
  pub numbers : (written t l).numbers ≡ overwrite (t.count + 2) (map packed_of l) t.numbers
  pub text : t.size + length (joined (paths l)) ≤ most → (written t l).text ≡ overwrite t.size (joined (paths l)) t.text
  pub result : (written t l).result ≡ t.result

-- short of 2 ^ 32 the counts are exact
pub noted : (t : Tape) (l : List Consult) → t.count + length l ≤ most → t.size ≤ most → Noted t l
unfolding written put joined paths
noted t [] h k = record { count = omega arith; size = omega arith; numbers = sym (overwrite_nil _ _); text = λ s. sym (overwrite_nil _ _); result = refl }
noted t (c ∷ l) h k =
    let e = length-append c.path (joined (paths l)) in
    let n : (put t c).count ≡ t.count + 1 = omega arith in
    let z : (put t c).size ≡ min (t.size + length c.path) most = refl in
    let at_next : (put t c).count + 2 ≡ suc (t.count + 2) = omega arith in
    let r : Noted (put t c) l = noted (put t c) l (omega arith) (omega arith) in
    record {
      count = r.count ∙ omega arith;
      size = r.size ∙ omega arith;
      numbers = r.numbers ∙ rw at_next (overwrite_set (t.count + 2) (packed_of c) (map packed_of l) t.numbers);
      text = λ s.
          let y : (put t c).size ≡ t.size + length c.path = omega arith in
          r.text (omega arith) ∙ rw y (overwrite_append t.size c.path (joined (paths l)) t.text);
      result = r.result;
    }
