-- A ROUTINE THAT IS CAUGHT: it runs over a result text of its own, its consults stay in the list, and its end is a
-- value to what follows; the limit's end passes.
use Rattle.std.specs.Prelude.{◌≡◌, refl, List, [], ◌∷◌, ◌++◌, ℕ, ◌-◌, length}
use Rattle.std.proofs.Common.{sym, ◌∙◌, arith}
use Rattle.std.proofs.Math.Path.{ap}
use Rattle.definition.specs.Text.{overwrite}
use Rattle.definition.specs.Ask.{Listing, Consult, Step, go, stop, Ask, end, answer, log, within, catch, ◌>>=◌}
use Rattle.definition.specs.Manifest.{End, end_texts}
use Rattle.definition.specs.Called.{joined}
use Rattle.laws.specs.CatchLaws.{answer_caught, log_caught}
use Rattle.consults.specs.declared.Ending.{Ending}
use Rattle.consults.specs.Tape.{Tape, put, written, ended, after, numbered, over, Done, after_append}

-- the tape with another result text
abbrev pub onto : List ℕ → Tape → Tape
onto b t = record { result = b; numbers = t.numbers; text = t.text; count = t.count; size = t.size; left = t.left }

-- over the listing L the routine t, within the consults that are left, comes back or ends as x, and takes the tape s to
-- s'
pub record Caught {M A : Type 0} (L : Listing M) (t : Ask End M A) (s s' : Tape) (x : Step End A) : Type 0 where
  pub back : answer L (within over s.left t) ≡ x
  pub tape : written s (log L (within over s.left t)) ≡ s'

-- the result text in which it was run
unfoldable pub resulting : {A : Type 0} → List ℕ → Step End A → List ℕ
resulting b (go a) = b
resulting b (stop e) = overwrite 0 (joined (end_texts e)) b

written_left : (s : Tape) (l : List Consult) → (written s l).left ≡ s.left - length l
unfolding written put
written_left s [] = omega arith
written_left s (c ∷ l) = let z = written_left (put s c) l in omega arith

written_onto : (b : List ℕ) (s : Tape) (l : List Consult) → written (onto b s) l ≡ onto b (written s l)
unfolding written put
written_onto b s [] = refl
written_onto b s (c ∷ l) = written_onto b (put s c) l

written_result : (s : Tape) (l : List Consult) → (written s l).result ≡ s.result
unfolding written put
written_result s [] = refl
written_result s (c ∷ l) = written_result (put s c) l

-- what a function that ran over the result text b says of the routine that is caught
pub record Run {M A : Type 0} (L : Listing M) (t : Ask End M A) (b : List ℕ) (s s₁ : Tape) (r : Step Ending A) : Type 0 where
  pub end : Step End A
  pub caught : Caught L t s (onto s.result s₁) end
  pub number : numbered end ≡ r
  pub result : s₁.result ≡ resulting b end

module _ {M : Type 0} {L : Listing M} where
  pub run : {A : Type 0} {t : Ask End M A} (b : List ℕ) (s : Tape) {s₁ : Tape} {r : Step Ending A} → Done L t (onto b s) s₁ r → Run L t b s s₁ r
  run {A} {t} b s {s₁} {r} d = record {
    end = answer L (within over s.left t);
    caught = record { back = refl; tape = by (answer L (within over s.left t)) d.tape };
    number = d.back;
    result = at (answer L (within over s.left t)) d.tape;
  }
    where
      l : List Consult
      l = log L (within over s.left t)

      own : written s l ≡ onto s.result (written s l)
      own = ap (λ z. onto z (written s l)) (written_result s l)

      by : (x : Step End A) → after (onto b s) l x ≡ s₁ → written s l ≡ onto s.result s₁
      by (go a) e = unfold after in (own ∙ ap (onto s.result) (sym (written_onto b s l) ∙ e))
      by (stop x) e = unfold after ended in (own ∙ ap (onto s.result) (sym (written_onto b s l)) ∙ ap (onto s.result) e)

      at : (x : Step End A) → after (onto b s) l x ≡ s₁ → s₁.result ≡ resulting b x
      at (go a) e = unfold after resulting in (rw (← e) (written_result (onto b s) l))
      at (stop x) e = unfold after ended resulting in (rw (← e) (ap (overwrite 0 (joined (end_texts x))) (written_result (onto b s) l)))

  -- THE RULE: a routine that is caught, and what follows
  pub done_caught : {A B : Type 0} {t : Ask End M A} (f : Step End A → Ask End M B) → f (stop over) ≡ end over → {s s₁ s₂ : Tape} {x : Step End A} {r : Step Ending B}
      → Caught L t s s₁ x → Done L (f x) s₁ s₂ r → Done L (catch t >>= f) s s₂ r
  done_caught {t = t} f p {s} {s₁} {s₂} {x} {r} c d = record {
    back = ap numbered (answers ∙ same) ∙ d.back;
    tape = ap (λ l. after s l (answer L (within over s.left (catch t >>= f)))) (lists ∙ ap (λ z. l ++ z) follows)
        ∙ after_append s l _ _
        ∙ ap (λ z. after z (log L (within over s₁.left (f x))) (answer L (within over s.left (catch t >>= f)))) c.tape
        ∙ ap (λ z. after s₁ (log L (within over s₁.left (f x))) z) (answers ∙ same) ∙ d.tape;
  }
    where
      l : List Consult
      l = log L (within over s.left t)

      left : s.left - length l ≡ s₁.left
      left = sym (written_left s l) ∙ ap (λ (z : Tape). z.left) c.tape

      answers : answer L (within over s.left (catch t >>= f)) ≡ answer L (within over (s.left - length l) (f (answer L (within over s.left t))))
      answers = answer_caught L over f p s.left t

      same : answer L (within over (s.left - length l) (f (answer L (within over s.left t)))) ≡ answer L (within over s₁.left (f x))
      same = ap (λ n. answer L (within over n (f (answer L (within over s.left t))))) left ∙ ap (λ z. answer L (within over s₁.left (f z))) c.back

      lists : log L (within over s.left (catch t >>= f)) ≡ l ++ log L (within over (s.left - length l) (f (answer L (within over s.left t))))
      lists = log_caught L over f p s.left t

      follows : log L (within over (s.left - length l) (f (answer L (within over s.left t)))) ≡ log L (within over s₁.left (f x))
      follows = ap (λ n. log L (within over n (f (answer L (within over s.left t))))) left ∙ ap (λ z. log L (within over s₁.left (f z))) c.back
