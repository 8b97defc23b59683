-- Numbers: the reader of a number against the grammar, both ways.
use Rattle.std.specs.Prelude.{◌≡◌, refl, ℕ, ◌≤◌, Bool, true, false, ◌||◌, [], ◌∷◌, ◌++◌, eqb, if◌then◌else◌}
use Rattle.std.proofs.Common.{sym, ◌∙◌, ap, subst, arith, append_assoc, eqb-true, ne_eqb}
use Rattle.std.proofs.lemmas.Bool.{eqb-false}
use Rattle.definition.specs.Text.{Text, within, skip_while, is_digit}
use Rattle.laws.specs.TextSteps.{within_yes}
use Rattle.definition.specs.Json.{Json, scalar, got, and_then, skip_digits, digits, sign, exponent, fraction, integer}
use Rattle.laws.specs.Local.{no_got, Both, and_then_both}
use Rattle.laws.specs.JsonLocal.{or_elim, Delimited, no_digit_follows, skip_digits_none, delimited_no_digit, exponent_delimited, fraction_delimited}
use Rattle.laws.specs.JsonEndLaws.{Cut, cut_then}
use Rattle.laws.specs.JsonStringLaws.{by_test, if_cases, within_true}
use Rattle.definition.specs.JsonGrammar as G
use Rattle.definition.specs.JsonGrammar.{
  absent,
  present,
  digit,
  no_digit,
  and-digit,
  digit1-9,
  decimal-point,
  small-e,
  capital-E,
  a-minus,
  a-plus,
  power,
}

-- SOUND
skip_digits_sound : (s : Text) → Cut G.DIGITs s (skip_digits s)
unfolding skip_while is_digit
skip_digits_sound [] = record { text = []; cut = refl; holds = no_digit }
skip_digits_sound (b ∷ s) = go (within 48 57 b) refl (skip_digits_sound s)
  where
    go : (u : Bool) → within 48 57 b ≡ u → Cut G.DIGITs s (skip_digits s) → Cut G.DIGITs (b ∷ s) (if u then skip_digits s else b ∷ s)
    go true h d =
        record { text = b ∷ d.text; cut = ap (λ x. b ∷ x) d.cut; holds = and-digit (digit (within_true _ _ _ h).0 (within_true _ _ _ h).1) d.holds }
    go false h d = record { text = []; cut = refl; holds = no_digit }

-- 1*DIGIT
record Digits1 (s : Text) (j : Json) (r : Text) : Type 0 where
  first : ℕ
  text : Text
  cut : s ≡ first ∷ text ++ r
  one : G.DIGIT first
  digits : G.DIGITs text
  value : scalar ≡ j

digits_sound : (s : Text) (j : Json) (r : Text) → digits s ≡ got j r → Digits1 s j r
unfolding digits is_digit
digits_sound [] j r e = no_got e
digits_sound (b ∷ s) j r e = go (within 48 57 b) refl (skip_digits_sound s)
  where
    go : (u : Bool) → within 48 57 b ≡ u → Cut G.DIGITs s (skip_digits s) → Digits1 (b ∷ s) j r
    go true h d =
        let f : got scalar (skip_digits s) ≡ got j r = rw h at e in
        let x : scalar ≡ j = cc in
        let y : skip_digits s ≡ r = cc in
        record {
          first = b;
          text = d.text;
          cut = ap (λ x. b ∷ x) (d.cut ∙ ap (λ z. d.text ++ z) y);
          one = digit (within_true _ _ _ h).0 (within_true _ _ _ h).1;
          digits = d.holds;
          value = x;
        }
    go false h d = no_got (rw h at e)

sign_sound : (s : Text) → Cut (G.optional G.minus-or-plus) s (sign s)
unfolding sign
sign_sound [] = record { text = []; cut = refl; holds = absent }
sign_sound (b ∷ s) = go (eqb b 43) refl (eqb b 45) refl
  where
    go : (u : Bool) → eqb b 43 ≡ u → (v : Bool) → eqb b 45 ≡ v → Cut (G.optional G.minus-or-plus) (b ∷ s) (if u || v then s else b ∷ s)
    go true h v k = record { text = b ∷ []; cut = refl; holds = subst (λ z. G.optional G.minus-or-plus (z ∷ [])) (sym (eqb-true b 43 h)) (present a-plus) }
    go false h true k = record { text = b ∷ []; cut = refl; holds = subst (λ z. G.optional G.minus-or-plus (z ∷ [])) (sym (eqb-true b 45 k)) (present a-minus) }
    go false h false k = record { text = []; cut = refl; holds = absent }

-- an optional part
record Part (A : Text → Type 0) (s : Text) (j : Json) (r : Text) : Type 0 where
  text : Text
  cut : s ≡ text ++ r
  part : G.optional A text
  value : scalar ≡ j

exponent_sound : (s : Text) (j : Json) (r : Text) → exponent s ≡ got j r → Part G.exp s j r
unfolding exponent
exponent_sound [] j r e = record { text = []; cut = cc; part = absent; value = cc }
exponent_sound (b ∷ s) j r e = by_test (eqb b 101 || eqb b 69) yes_exp no_exp
  where
    no_exp : eqb b 101 || eqb b 69 ≡ false → Part G.exp (b ∷ s) j r
    no_exp h =
        let f : got scalar (b ∷ s) ≡ got j r = rw h at e in
        let x : scalar ≡ j = cc in
        let y : b ∷ s ≡ r = cc in
        record { text = []; cut = y; part = absent; value = x }

    whole : G.e b → Cut (G.optional G.minus-or-plus) s (sign s) → Digits1 (sign s) j r → Part G.exp (b ∷ s) j r
    whole k g d =
        record {
          text = b ∷ g.text ++ d.first ∷ d.text;
          cut = ap (λ x. b ∷ x) (cut_then g.text (d.first ∷ d.text) r g.cut d.cut);
          part = present (power k g.holds d.one d.digits);
          value = d.value;
        }

    yes_exp : eqb b 101 || eqb b 69 ≡ true → Part G.exp (b ∷ s) j r
    yes_exp h =
        whole (or_elim _ _ h (λ k. subst G.e (sym (eqb-true b 101 k)) small-e) (λ k. subst G.e (sym (eqb-true b 69 k)) capital-E))
        (sign_sound s) (digits_sound (sign s) j r (rw h at e))

-- behind the integer
record Parts (s : Text) (j : Json) (r : Text) : Type 0 where
  frac_text : Text
  exp_text : Text
  cut : s ≡ (frac_text ++ exp_text) ++ r
  fraction_part : G.optional G.frac frac_text
  exponent_part : G.optional G.exp exp_text
  value : scalar ≡ j

fraction_sound : (s : Text) (j : Json) (r : Text) → fraction s ≡ got j r → Parts s j r
unfolding fraction
fraction_sound [] j r e = record { frac_text = []; exp_text = []; cut = cc; fraction_part = absent; exponent_part = absent; value = cc }
fraction_sound (b ∷ s) j r e = by_test (eqb b 46) yes_frac no_frac
  where
    no_frac : eqb b 46 ≡ false → Parts (b ∷ s) j r
    no_frac h =
        let p : Part G.exp (b ∷ s) j r = exponent_sound (b ∷ s) j r (rw h at e) in
        record { frac_text = []; exp_text = p.text; cut = p.cut; fraction_part = absent; exponent_part = p.part; value = p.value }

    joined : b ≡ 46 → {i : Json} {q : Text} → Digits1 s i q → Part G.exp q j r → Parts (b ∷ s) j r
    joined c f p =
        record {
          frac_text = 46 ∷ f.first ∷ f.text;
          exp_text = p.text;
          cut = ap (λ x. x ∷ s) c ∙ ap (λ x. 46 ∷ x) (cut_then (f.first ∷ f.text) p.text r f.cut p.cut);
          fraction_part = present (decimal-point f.one f.digits);
          exponent_part = p.part;
          value = p.value;
        }

    yes_frac : eqb b 46 ≡ true → Parts (b ∷ s) j r
    yes_frac h =
        let d : Both (digits s) (λ j r. exponent r) j r = and_then_both _ _ j r (rw h at e) in
        joined (eqb-true b 46 h) (digits_sound s d.value d.rest d.first) (exponent_sound d.rest j r d.second)

-- THE NUMBER READER IS SOUND
pub record Numbered (s : Text) (j : Json) (r : Text) : Type 0 where
  pub int_text : Text
  pub frac_text : Text
  pub exp_text : Text
  pub cut : s ≡ (int_text ++ (frac_text ++ exp_text)) ++ r
  pub integer_part : G.int int_text
  pub fraction_part : G.optional G.frac frac_text
  pub exponent_part : G.optional G.exp exp_text
  pub value : scalar ≡ j

pub integer_sound : (s : Text) (j : Json) (r : Text) → integer s ≡ got j r → Numbered s j r
unfolding integer is_digit
integer_sound [] j r e = no_got e
integer_sound (b ∷ s) j r e =
    if_cases _ _ _ e (λ h f. number (subst (λ z. G.int (z ∷ [])) (sym (eqb-true b 48 h)) G.zero) refl (fraction_sound s j r f)) λ h f.
    if_cases _ _ _ f (λ k g. digits_too (eqb-false b 48 h) k (skip_digits_sound s) g) (λ k g. no_got g)
  where
    number : {x q : Text} → G.int (b ∷ x) → s ≡ x ++ q → Parts q j r → Numbered (b ∷ s) j r
    number {x} i c p =
        record {
          int_text = b ∷ x;
          frac_text = p.frac_text;
          exp_text = p.exp_text;
          cut = ap (λ z. b ∷ z) (cut_then x (p.frac_text ++ p.exp_text) r c p.cut);
          integer_part = i;
          fraction_part = p.fraction_part;
          exponent_part = p.exponent_part;
          value = p.value;
        }

    digits_too : (b ≡ 48 → ⊥) → within 48 57 b ≡ true → Cut G.DIGITs s (skip_digits s) → fraction (skip_digits s) ≡ got j r → Numbered (b ∷ s) j r
    digits_too n k d f =
        let w : (48 ≤ b) × (b ≤ 57) = within_true _ _ _ k in number (digit1-9 (omega arith) w.1 d.holds) d.cut (fraction_sound (skip_digits s) j r f)

-- COMPLETE
-- digits in front of what is no digit
skip_digits_lem : {x : Text} → G.DIGITs x → (t : Text) → no_digit_follows t ≡ true → skip_digits (x ++ t) ≡ t
unfolding skip_while is_digit
skip_digits_lem no_digit t d = skip_digits_none t d
skip_digits_lem (and-digit {b = b} (digit p q) ds) t d = rw (within_yes 48 57 b p q) (skip_digits_lem ds t d)

digits_ends : {b : ℕ} {x : Text} → G.DIGIT b → G.DIGITs x → (t : Text) → no_digit_follows t ≡ true → digits (b ∷ x ++ t) ≡ got scalar t
unfolding digits is_digit
digits_ends {b} (digit p q) ds t d = rw (within_yes 48 57 b p q) (ap (got scalar) (skip_digits_lem ds t d))

sign_ends : {s : Text} → G.optional G.minus-or-plus s → {b : ℕ} (x : Text) → G.DIGIT b → sign (s ++ b ∷ x) ≡ b ∷ x
unfolding sign
sign_ends absent {b} x (digit p q) = rw (ne_eqb b 43 (omega arith), ne_eqb b 45 (omega arith))
sign_ends (present a-minus) x d = refl
sign_ends (present a-plus) x d = refl

exponent_ends : {x : Text} → G.optional G.exp x → (t : Text) → Delimited t → exponent (x ++ t) ≡ got scalar t
unfolding exponent
exponent_ends absent t d = exponent_delimited t d
exponent_ends (present (power {b = b} {s = s} {t = u} small-e g k ds)) t d =
    ap (λ z. digits (sign z)) (append_assoc s (b ∷ u) t) ∙ ap digits (sign_ends g (u ++ t) k) ∙ digits_ends k ds t (delimited_no_digit t d)
exponent_ends (present (power {b = b} {s = s} {t = u} capital-E g k ds)) t d =
    ap (λ z. digits (sign z)) (append_assoc s (b ∷ u) t) ∙ ap digits (sign_ends g (u ++ t) k) ∙ digits_ends k ds t (delimited_no_digit t d)

-- an exponent begins with no digit
exponent_no_digit : {x : Text} → G.optional G.exp x → (t : Text) → Delimited t → no_digit_follows (x ++ t) ≡ true
unfolding no_digit_follows is_digit within
exponent_no_digit absent t d = delimited_no_digit t d
exponent_no_digit (present (power small-e g k ds)) t d = refl
exponent_no_digit (present (power capital-E g k ds)) t d = refl

fraction_ends : {x y : Text} → G.optional G.frac x → G.optional G.exp y → (t : Text) → Delimited t → fraction ((x ++ y) ++ t) ≡ got scalar t
unfolding fraction
fraction_ends absent absent t d = fraction_delimited t d
fraction_ends absent (present (power small-e g k ds)) t d = exponent_ends (present (power small-e g k ds)) t d
fraction_ends absent (present (power capital-E g k ds)) t d = exponent_ends (present (power capital-E g k ds)) t d
fraction_ends {y = y} (present (decimal-point {b = b} {s = s} k ds)) p t d =
    ap (λ z. and_then (digits (b ∷ z)) (λ j r. exponent r)) (append_assoc s y t)
    ∙ ap (λ z. and_then z (λ j r. exponent r)) (digits_ends k ds (y ++ t) (exponent_no_digit p t d))
    ∙ exponent_ends p t d

-- what follows an integer begins with no digit
parts_no_digit : {x y : Text} → G.optional G.frac x → G.optional G.exp y → (t : Text) → Delimited t → no_digit_follows ((x ++ y) ++ t) ≡ true
unfolding no_digit_follows is_digit within
parts_no_digit absent p t d = exponent_no_digit p t d
parts_no_digit (present (decimal-point k ds)) p t d = refl

-- THE NUMBER READER IS COMPLETE, in front of a delimiter
pub integer_ends : {x y z : Text} → G.int x → G.optional G.frac y → G.optional G.exp z → (t : Text) → Delimited t → integer ((x ++ (y ++ z)) ++ t) ≡ got scalar t
unfolding integer is_digit
integer_ends G.zero p q t d = fraction_ends p q t d
integer_ends {y = y} {z = z} (digit1-9 {b = b} {s = s} l h ds) p q t d =
    rw (ne_eqb b 48 (omega arith), within_yes 48 57 b (omega arith) h)
    (ap (λ u. fraction (skip_digits u)) (append_assoc s (y ++ z) t) ∙ ap fraction (skip_digits_lem ds ((y ++ z) ++ t) (parts_no_digit p q t d)) ∙ fraction_ends p q t d)
