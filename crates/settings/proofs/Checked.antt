-- The check's loop: what is left begins where the next text starts, and every text before it has passed.
use Rattle.std.proofs.Common.{◌≡◌, ℕ, ◌+◌, ◌-◌, ◌≤◌, ◌<◌, Bool, true, false, ◌&&◌, ◌||◌, List, [], length, take, drop, get_or, sym, ◌∙◌, ap, refl, arith, add-one, length-take, length-drop, below_more}
use Rattle.std.proofs.lemmas.List.{drop-drop, take_all, drop-take}
use borrow.Author.Tests.{eqb-true, eqb-false}
use Rattle.std.specs.Prelude.{◌==◌}
use Rattle.std.specs.List.{IsSplitAt}
use Rattle.definition.specs.Settings.{count_before, text_lengths, all_texts, sum, is_setting, is_non_empty, passes24}
use Rattle.laws.specs.SettingsLaws.{sum_next, sum_first, lengths_length, texts_length, text_at, is_extension, text_passes, counts_pass, refused_length, refused_text, accepted_by_texts}

-- where text k starts
abbrev pub start_of : List ℕ → ℕ → ℕ
start_of s k = 6 + count_before s 6 + sum (take k (text_lengths s))

-- n is the length of text k
pub record At (s : List ℕ) (k n : ℕ) : Type 0 where
  pub inside : k < length (text_lengths s)
  pub length_is : n ≡ get_or (text_lengths s) k 0

pub record Left (s rest : List ℕ) (k : ℕ) : Type 0 where
  pub begins : rest ≡ drop (start_of s k) s
  pub inside : start_of s k ≤ length s
  pub passed : (j : ℕ) → j < k → text_passes s j ≡ true

-- the lengths are read from all that stands before the texts
module _ (s : List ℕ) (c : ℕ) (head rest : List ℕ) (e : c ≡ count_before s 6) (p : IsSplitAt s (6 + c) head rest) where
  pub lengths_here : take (length head - 6) (drop 6 head) ≡ text_lengths s
  unfolding text_lengths
  lengths_here =
      let n : length head - 6 ≡ c = omega arith in
      let whole : take c (take c (drop 6 s)) ≡ take c (drop 6 s) =
      take_all c (take c (drop 6 s)) (omega (arith, length-take c (drop 6 s))) in
      rw (n, p.1, drop-take 6 c s) (rw whole (rw e))

  pub turn : (k n : ℕ) → k < length (take (length head - 6) (drop 6 head))
      → n ≡ get_or (take (length head - 6) (drop 6 head)) k 0 → At s k n
  turn k n l m = record { inside = rw (← lengths_here) l; length_is = rw (← lengths_here) m }

pub left_start : (s : List ℕ) (c : ℕ) (head rest : List ℕ) → c ≡ count_before s 6 → IsSplitAt s (6 + c) head rest
    → Left s rest 0
unfolding sum
left_start s c head rest e p = record {
  begins = let z : 6 + c ≡ start_of s 0 = omega arith in p.2 ∙ ap (λ n. drop n s) z;
  inside = omega arith;
  passed = λ j h. absurd (omega arith);
}

pub too_short : (s : List ℕ) (c : ℕ) → c ≡ count_before s 6 → length s < 6 + c → passes24 s ≡ false
too_short s c e h = refused_length s (λ f. omega arith)

module _ {s rest : List ℕ} {k n : ℕ} (h : Left s rest k) (a : At s k n) where
  step : start_of s (k + 1) ≡ start_of s k + n
  step = rw (add-one k) (omega (arith, sum_next (text_lengths s) k, a.length_is))

  pub too_long : length rest < n → passes24 s ≡ false
  too_long l =
      let left : length rest ≡ length s - start_of s k = rw h.begins (length-drop (start_of s k) s) in
      refused_length s (λ e. omega (arith, left, step, sum_first (text_lengths s) (k + 1), h.inside))

  module _ {text after : List ℕ} {x b : Bool} (p : IsSplitAt rest n text after) (q : x ≡ is_extension s k)
      (r : b ≡ is_setting text && (x || is_non_empty text)) where
    text_here : text ≡ get_or (all_texts s) k []
    text_here = p.1 ∙ rw (text_at s k, a.length_is, h.begins)

    passes_here : b ≡ text_passes s k
    unfolding text_passes
    passes_here = r ∙ rw (text_here, q)

    pub wrong : b ≡ false → passes24 s ≡ false
    wrong f = refused_text s k (omega (arith, texts_length s, lengths_length s, a.inside)) (sym passes_here ∙ f)

    pub left_next : b ≡ true → Left s after (k + 1)
    left_next t = record {
      begins = p.2 ∙ rw (step, h.begins, drop-drop n (start_of s k) s);
      inside = omega (arith, step, p.0, h.inside, ap length h.begins, length-drop (start_of s k) s);
      passed = below_more _ _ h.passed (sym passes_here ∙ t);
    }

pub left_end : (s rest : List ℕ) (k : ℕ) → counts_pass s ≡ true → Left s rest k → length (text_lengths s) ≤ k
    → (length rest == 0) ≡ passes24 s
left_end s rest k c h e = go (length rest == 0) refl
  where
    n : take k (text_lengths s) ≡ text_lengths s
    n = take_all k (text_lengths s) e

    left : length rest ≡ length s - (6 + count_before s 6 + sum (text_lengths s))
    left = rw h.begins (length-drop (start_of s k) s ∙ rw n)

    whole : 6 + count_before s 6 + sum (text_lengths s) ≤ length s
    whole = rw n at h.inside

    go : (t : Bool) → (length rest == 0) ≡ t → t ≡ passes24 s
    go true f =
        let z : length rest ≡ 0 = eqb-true _ _ f in
        sym (accepted_by_texts s (λ j l. h.passed j (omega (arith, texts_length s, lengths_length s))) c
        (omega (arith, left, whole)))
    go false f = sym (refused_length s (λ g. eqb-false (length rest) 0 f (omega (arith, left))))
