-- A VALUE THAT IS PASSED BY: brackets and quotes are enough to find the end of a text of the grammar.
use Rattle.std.specs.Prelude.{◌≡◌, refl, Bool, true, false, [], ◌∷◌, ◌++◌, eqb, if◌then◌else◌}
use Rattle.std.proofs.Common.{◌∙◌, ap, append_assoc}
use Prim.Native.Nat.{ℕ, suc, ◌+◌, ◌-◌, ◌≤◌}
use native.Mathlib.Omega.{arith}
use Rattle.std.proofs.Math.Option.{some}
use borrow.Author.Tests.{ne_eqb}
use Rattle.definition.specs.Text.{Text}
use Rattle.definition.specs.Json.{Json, scalar, str, arr, obj, Elements, no_element, element, Members, no_member, member, skip_space}
use Rattle.laws.specs.JsonEndLaws.{skip_ws}
use Rattle.definition.specs.JsonAt.{then_at, text_end, opens_bracket, closes_bracket, outside, in_text, escaped, bracket_end}
use Rattle.definition.specs.JsonGrammar as G
use Rattle.definition.specs.JsonGrammar.{absent, present, digit, no_digit, and-digit, decimal, upper-case, lower-case, four, UTF8-1, UTF8-2, UTF8-3, UTF8-4, no-space, space, horizontal-tab, line-feed, carriage-return, spaced, minus-sign, digit1-9, decimal-point, small-e, capital-E, a-minus, a-plus, power, a-number, up-to-quotation-mark, up-to-backslash, behind-backslash, plain, quotation-mark, reverse-solidus, solidus, b-backspace, f-form-feed, n-line-feed, r-carriage-return, t-tab, u-number, u-surrogates, no_char, and-char, between-quotes, is_false, is-null, is_true, is-object, is-array, is_number, is-string, empty-object, full-object, last-member, next-member, named, empty-array, full-array, last-value, next-value}

-- inside brackets: a whole text at once
pub over_text : (e : Bool) (n : ℕ) (s : Text) → bracket_end (if e then escaped else in_text) n s ≡ then_at (text_end e s) (λ r. bracket_end outside n r)
unfolding bracket_end text_end
over_text true n [] = refl
over_text false n [] = refl
over_text true n (b ∷ s) = over_text false n s
over_text false n (b ∷ s) = go (eqb b 34) (eqb b 92) (over_text true n s) (over_text false n s)
  where
    go : (x y : Bool) → bracket_end escaped n s ≡ then_at (text_end true s) (λ r. bracket_end outside n r) → bracket_end in_text n s ≡ then_at (text_end false s) (λ r. bracket_end outside n r)
        → (if x then bracket_end outside n s else if y then bracket_end escaped n s else bracket_end in_text n s) ≡ then_at (if x then some s else if y then text_end true s else text_end false s) (λ r. bracket_end outside n r)
    go true y f g = refl
    go false true f g = f
    go false false f g = g

-- texts that lead neither into a bracket nor out of one
pub record Passes (x : Text) : Type 0 where
  pub by : (n : ℕ) (t : Text) → bracket_end outside n (x ++ t) ≡ bracket_end outside n t

pass_nil : Passes []
pass_nil = record { by = λ n t. refl }

pass_append : {x y : Text} → Passes x → Passes y → Passes (x ++ y)
pass_append {x} {y} p q = record { by = λ n t. rw (append_assoc x y t) (p.by n (y ++ t) ∙ q.by n t) }

pass_byte : {x : Text} (b : ℕ) → (b ≡ 34 → ⊥) → (b ≡ 91 → ⊥) → (b ≡ 123 → ⊥) → (b ≡ 93 → ⊥) → (b ≡ 125 → ⊥) → Passes x → Passes (b ∷ x)
unfolding bracket_end opens_bracket closes_bracket
pass_byte b q o p c d h = record { by = λ n t. rw (ne_eqb b 34 q, ne_eqb b 91 o, ne_eqb b 123 p, ne_eqb b 93 c, ne_eqb b 125 d) (h.by n t) }

-- a byte up to the colon that is no quote, and a small letter
pass_low : {x : Text} (b : ℕ) → (b ≡ 34 → ⊥) → b ≤ 0x45 → Passes x → Passes (b ∷ x)
pass_low b q l h = pass_byte b q (λ e. omega arith) (λ e. omega arith) (λ e. omega arith) (λ e. omega arith) h

pass_letter : {x : Text} (b : ℕ) → 0x61 ≤ b → b ≤ 0x7a → Passes x → Passes (b ∷ x)
pass_letter b l k h = pass_byte b (λ e. omega arith) (λ e. omega arith) (λ e. omega arith) (λ e. omega arith) (λ e. omega arith) h

pub pass_ws : {a : Text} → G.ws a → Passes a
pass_ws no-space = pass_nil
pass_ws (space w) = pass_low 0x20 (λ e. omega arith) (omega arith) (pass_ws w)
pass_ws (horizontal-tab w) = pass_low 0x09 (λ e. omega arith) (omega arith) (pass_ws w)
pass_ws (line-feed w) = pass_low 0x0a (λ e. omega arith) (omega arith) (pass_ws w)
pass_ws (carriage-return w) = pass_low 0x0d (λ e. omega arith) (omega arith) (pass_ws w)

pass_structural : {a : Text} (c : ℕ) → (c ≡ 34 → ⊥) → c ≤ 0x45 → G.structural c a → Passes a
pass_structural c q l (spaced u v) = pass_append (pass_ws u) (pass_low c q l (pass_ws v))

-- numbers
pass_digits : {s : Text} → G.DIGITs s → Passes s
pass_digits no_digit = pass_nil
pass_digits (and-digit {b} (digit l h) d) = pass_low b (λ e. omega arith) (omega arith) (pass_digits d)

pass_optional : {A : Text → Type 0} {s : Text} → ((t : Text) → A t → Passes t) → G.optional A s → Passes s
pass_optional f absent = pass_nil
pass_optional {s = s} f (present a) = f s a

pass_minus : {s : Text} → G.minus s → Passes s
pass_minus minus-sign = pass_low 0x2d (λ e. omega arith) (omega arith) pass_nil

pass_sign : {s : Text} → G.minus-or-plus s → Passes s
pass_sign a-minus = pass_low 0x2d (λ e. omega arith) (omega arith) pass_nil
pass_sign a-plus = pass_low 0x2b (λ e. omega arith) (omega arith) pass_nil

pass_int : {s : Text} → G.int s → Passes s
pass_int G.zero = pass_low 0x30 (λ e. omega arith) (omega arith) pass_nil
pass_int (digit1-9 {b} l h d) = pass_low b (λ e. omega arith) (omega arith) (pass_digits d)

pass_frac : {s : Text} → G.frac s → Passes s
pass_frac (decimal-point {b} (digit l h) d) = pass_low 0x2e (λ e. omega arith) (omega arith) (pass_low b (λ e. omega arith) (omega arith) (pass_digits d))

pass_e : {c : ℕ} {s : Text} → G.e c → Passes s → Passes (c ∷ s)
pass_e small-e h = pass_letter 0x65 (omega arith) (omega arith) h
pass_e capital-E h = pass_low 0x45 (λ e. omega arith) (omega arith) h

pass_exp : {s : Text} → G.exp s → Passes s
pass_exp (power {b = b} c o (digit l h) d) = pass_e c (pass_append (pass_optional (λ t. pass_sign) o) (pass_low b (λ e. omega arith) (omega arith) (pass_digits d)))

pass_number : {s : Text} → G.number s → Passes s
pass_number (a-number m i f x) = pass_append (pass_append (pass_append (pass_optional (λ t. pass_minus) m) (pass_int i)) (pass_optional (λ t. pass_frac) f)) (pass_optional (λ t. pass_exp) x)

-- strings
record Through (x : Text) : Type 0 where
  by : (t : Text) → text_end false (x ++ t) ≡ text_end false t

through_nil : Through []
through_nil = record { by = λ t. refl }

through_append : {x y : Text} → Through x → Through y → Through (x ++ y)
through_append {x} {y} p q = record { by = λ t. rw (append_assoc x y t) (p.by (y ++ t) ∙ q.by t) }

through_byte : {x : Text} (b : ℕ) → (b ≡ 34 → ⊥) → (b ≡ 92 → ⊥) → Through x → Through (b ∷ x)
unfolding text_end
through_byte b q a h = record { by = λ t. rw (ne_eqb b 34 q, ne_eqb b 92 a) (h.by t) }

through_high : {x : Text} (b : ℕ) → 0x80 ≤ b → Through x → Through (b ∷ x)
through_high b l h = through_byte b (λ e. omega arith) (λ e. omega arith) h

through_escape : {x : Text} (b : ℕ) → Through x → Through (92 ∷ b ∷ x)
unfolding text_end
through_escape b h = record { by = λ t. h.by t }

through_hex : {a p : ℕ} {x : Text} → G.HEXDIG a p → Through x → Through (a ∷ x)
through_hex (decimal n l) h = through_byte (0x30 + n) (λ e. omega arith) (λ e. omega arith) h
through_hex (upper-case n l) h = through_byte (0x41 + n) (λ e. omega arith) (λ e. omega arith) h
through_hex (lower-case n l) h = through_byte (0x61 + n) (λ e. omega arith) (λ e. omega arith) h

through_four : {s : Text} {n : ℕ} → G.4HEXDIG s n → Through s
through_four (four a b c d) = through_hex a (through_hex b (through_hex c (through_hex d through_nil)))

through_plain : {c : ℕ} {s : Text} → G.unescaped c → G.UTF8 c s → Through s
through_plain (up-to-quotation-mark l h) (UTF8-1 w k) = through_byte w (λ e. omega arith) (λ e. omega arith) through_nil
through_plain (up-to-backslash l h) (UTF8-1 w k) = through_byte w (λ e. omega arith) (λ e. omega arith) through_nil
through_plain (behind-backslash l h) (UTF8-1 w k) = through_byte w (λ e. omega arith) (λ e. omega arith) through_nil
through_plain u (UTF8-2 z w c k e l h) = through_high (0xc0 + z) (omega arith) (through_high (0x80 + w) (omega arith) through_nil)
through_plain u (UTF8-3 y z w c j k e l h n) = through_high (0xe0 + y) (omega arith) (through_high (0x80 + z) (omega arith) (through_high (0x80 + w) (omega arith) through_nil))
through_plain u (UTF8-4 x y z w c i j k e l h) =
    through_high (0xf0 + x) (omega arith) (through_high (0x80 + y) (omega arith) (through_high (0x80 + z) (omega arith) (through_high (0x80 + w) (omega arith) through_nil)))

through_char : {s x : Text} → G.char s x → Through s
through_char (plain u k) = through_plain u k
through_char quotation-mark = through_escape 0x22 through_nil
through_char reverse-solidus = through_escape 0x5c through_nil
through_char solidus = through_escape 0x2f through_nil
through_char b-backspace = through_escape 0x62 through_nil
through_char f-form-feed = through_escape 0x66 through_nil
through_char n-line-feed = through_escape 0x6e through_nil
through_char r-carriage-return = through_escape 0x72 through_nil
through_char t-tab = through_escape 0x74 through_nil
through_char (u-number f k) = through_escape 0x75 (through_four f)
through_char (u-surrogates f p g q e k) = through_escape 0x75 (through_append (through_four f) (through_escape 0x75 (through_four g)))

through_chars : {s x : Text} → G.chars s x → Through s
through_chars no_char = through_nil
through_chars (and-char c d) = through_append (through_char c) (through_chars d)

-- a string ends behind its closing quote
pub chars_end : {s x : Text} → G.chars s x → (t : Text) → text_end false (s ++ 34 ∷ t) ≡ some t
unfolding text_end
chars_end c t = (through_chars c).by (34 ∷ t)

pass_string : {s x : Text} → G.string s x → Passes s
unfolding bracket_end
pass_string (between-quotes {s} c) = record { by = λ n t. rw (append_assoc s (34 ∷ []) t) (over_text false n (s ++ 34 ∷ t) ∙ ap (λ y. then_at y (λ r. bracket_end outside n r)) (chars_end c t)) }

-- what stands in brackets
pub record Bracketed (o c : ℕ) (x : Text) : Type 0 where
  pub opening : Text
  pub inner : Text
  pub closing : Text
  pub is : x ≡ opening ++ (inner ++ closing)
  pub opens : G.structural o opening
  pub passes : Passes inner
  pub closes : G.structural c closing

open_by : (o : ℕ) → (o ≡ 34 → ⊥) → opens_bracket o ≡ true → {a : Text} → G.structural o a → (n : ℕ) (t : Text) → bracket_end outside n (a ++ t) ≡ bracket_end outside (suc n) t
unfolding bracket_end
open_by o q p (spaced {a} {b} u v) n t = rw (append_assoc a (o ∷ b) t) ((pass_ws u).by n (o ∷ b ++ t) ∙ rw (ne_eqb o 34 q, p) ((pass_ws v).by (suc n) t))

module _ (c : ℕ) (q : c ≡ 34 → ⊥) (o : opens_bracket c ≡ false) (p : closes_bracket c ≡ true) where
  close_by : {a : Text} → G.structural c a → (n : ℕ) (t : Text) → bracket_end outside (suc n) (a ++ t) ≡ bracket_end outside n t
  unfolding bracket_end
  close_by (spaced {a} {b} u v) n t =
      let e : suc n - 1 ≡ n = omega arith in
      rw (append_assoc a (c ∷ b) t) ((pass_ws u).by (suc n) (c ∷ b ++ t) ∙ rw (ne_eqb c 34 q, o, p, ne_eqb (suc n) 0 (λ z. omega arith), e) ((pass_ws v).by n t))

  -- the last closing bracket, and what stands behind it
  close_last : {a : Text} → G.structural c a → (t : Text) → (r : Text) × ((bracket_end outside 0 (a ++ t) ≡ some r) × (skip_space r ≡ skip_space t))
  unfolding bracket_end
  close_last (spaced {a} {b} u v) t = (b ++ t, (rw (append_assoc a (c ∷ b) t) ((pass_ws u).by 0 (c ∷ b ++ t) ∙ rw (ne_eqb c 34 q, o, p)), skip_ws t v))

regroup : (a b c t : Text) → (a ++ (b ++ c)) ++ t ≡ a ++ (b ++ (c ++ t))
regroup a b c t = simp append_assoc

module _ (o c : ℕ) (oq : o ≡ 34 → ⊥) (oo : opens_bracket o ≡ true) (cq : c ≡ 34 → ⊥) (co : opens_bracket c ≡ false) (cc' : closes_bracket c ≡ true) where
  pass_bracketed : {x : Text} → Bracketed o c x → Passes x
  pass_bracketed {x} k = record {
    by = λ n t.
        ap (bracket_end outside n) (ap (λ z. z ++ t) k.is ∙ regroup k.opening k.inner k.closing t)
        ∙ open_by o oq oo k.opens n (k.inner ++ (k.closing ++ t))
        ∙ k.passes.by (suc n) (k.closing ++ t)
        ∙ close_by c cq co cc' k.closes n t;
  }

  -- from behind the opening bracket
  end_bracketed : (os : o ≡ 0x20 → ⊥) → (ot : o ≡ 0x09 → ⊥) → (ol : o ≡ 0x0a → ⊥) → (or : o ≡ 0x0d → ⊥) → (x u r : Text) → o ∷ u ≡ x ++ r → Bracketed o c x → (q : Text) × ((bracket_end outside 0 u ≡ some q) × (skip_space q ≡ skip_space r))
  end_bracketed os ot ol or x u r e k = go k.opening k.opens (e ∙ ap (λ z. z ++ r) k.is ∙ regroup k.opening k.inner k.closing r)
    where
      inside : (w : Text) → G.ws w → u ≡ w ++ (k.inner ++ (k.closing ++ r)) → (q : Text) × ((bracket_end outside 0 u ≡ some q) × (skip_space q ≡ skip_space r))
      inside w v f =
          let l = close_last c cq co cc' k.closes r in
          (l.0, (ap (bracket_end outside 0) f ∙ (pass_ws v).by 0 (k.inner ++ (k.closing ++ r)) ∙ k.passes.by 0 (k.closing ++ r) ∙ l.1.0, l.1.1))

      go : (a : Text) → G.structural o a → o ∷ u ≡ a ++ (k.inner ++ (k.closing ++ r)) → (q : Text) × ((bracket_end outside 0 u ≡ some q) × (skip_space q ≡ skip_space r))
      go a (spaced {b = w} no-space v) f = inside w v (let z : u ≡ w ++ (k.inner ++ (k.closing ++ r)) = cc in z)
      go a (spaced (space w) v) f = absurd (os (let z : o ≡ 0x20 = cc in z))
      go a (spaced (horizontal-tab w) v) f = absurd (ot (let z : o ≡ 0x09 = cc in z))
      go a (spaced (line-feed w) v) f = absurd (ol (let z : o ≡ 0x0a = cc in z))
      go a (spaced (carriage-return w) v) f = absurd (or (let z : o ≡ 0x0d = cc in z))

-- values
pass_array : {x : Text} → Bracketed 91 93 x → Passes x
unfolding opens_bracket closes_bracket
pass_array k = pass_bracketed 91 93 (λ e. omega arith) refl (λ e. omega arith) refl refl k

pass_object : {x : Text} → Bracketed 123 125 x → Passes x
unfolding opens_bracket closes_bracket
pass_object k = pass_bracketed 123 125 (λ e. omega arith) refl (λ e. omega arith) refl refl k

pass_member : {s k : Text} {j : Json} → ((t : Text) → G.value t j → Passes t) → G.member s k j → Passes s
pass_member f (named {t = t} n c v) = pass_append (pass_append (pass_string n) (pass_structural 0x3a (λ e. omega arith) (omega arith) c)) (f t v)

mutual
  pub pass_value : (j : Json) (x : Text) → G.value x j → Passes x
  pass_value scalar x is_false = pass_letter 0x66 (omega arith) (omega arith) (pass_letter 0x61 (omega arith) (omega arith) (pass_letter 0x6c (omega arith) (omega arith) (pass_letter 0x73 (omega arith) (omega arith) (pass_letter 0x65 (omega arith) (omega arith) pass_nil))))
  pass_value scalar x is-null = pass_letter 0x6e (omega arith) (omega arith) (pass_letter 0x75 (omega arith) (omega arith) (pass_letter 0x6c (omega arith) (omega arith) (pass_letter 0x6c (omega arith) (omega arith) pass_nil)))
  pass_value scalar x is_true = pass_letter 0x74 (omega arith) (omega arith) (pass_letter 0x72 (omega arith) (omega arith) (pass_letter 0x75 (omega arith) (omega arith) (pass_letter 0x65 (omega arith) (omega arith) pass_nil)))
  pass_value scalar x (is_number n) = pass_number n
  pass_value (str k) x (is-string s) = pass_string s
  pass_value (arr js) x (is-array a) = pass_array (array_bracketed js a)
  pass_value (obj ms) x (is-object o) = pass_object (object_bracketed ms o)

  pub array_bracketed : (js : Elements) {x : Text} → G.array x js → Bracketed 91 93 x
  array_bracketed no_element (empty-array {a} {b} o c) = record { opening = a; inner = []; closing = b; is = refl; opens = o; passes = pass_nil; closes = c }
  array_bracketed (element j js) (full-array {a} {s} {t} {b} o v n c) =
      record { opening = a; inner = s ++ t; closing = b; is = simp append_assoc; opens = o; passes = pass_append (pass_value j s v) (pass_values js n); closes = c }

  pass_values : (js : Elements) {t : Text} → G.more-values t js → Passes t
  pass_values no_element last-value = pass_nil
  pass_values (element j js) (next-value {s = s} c v n) = pass_append (pass_append (pass_structural 0x2c (λ e. omega arith) (omega arith) c) (pass_value j s v)) (pass_values js n)

  pub object_bracketed : (ms : Members) {x : Text} → G.object x ms → Bracketed 123 125 x
  object_bracketed no_member (empty-object {a} {b} o c) = record { opening = a; inner = []; closing = b; is = refl; opens = o; passes = pass_nil; closes = c }
  object_bracketed (member k j ms) (full-object {a} {s} {t} {b} o m n c) =
      record { opening = a; inner = s ++ t; closing = b; is = simp append_assoc; opens = o; passes = pass_append (pass_member (λ x v. pass_value j x v) m) (pass_members ms n); closes = c }

  pass_members : (ms : Members) {t : Text} → G.more-members t ms → Passes t
  pass_members no_member last-member = pass_nil
  pass_members (member k j ms) (next-member c m n) = pass_append (pass_append (pass_structural 0x2c (λ e. omega arith) (omega arith) c) (pass_member (λ x v. pass_value j x v) m)) (pass_members ms n)

-- AN ARRAY OR OBJECT ENDS where its brackets say, but for white space
pub object_end : (x u r : Text) (ms : Members) → 123 ∷ u ≡ x ++ r → G.object x ms → (q : Text) × ((bracket_end outside 0 u ≡ some q) × (skip_space q ≡ skip_space r))
unfolding opens_bracket closes_bracket
object_end x u r ms e o =
    end_bracketed 123 125 (λ e. omega arith) refl (λ e. omega arith) refl refl (λ e. omega arith) (λ e. omega arith) (λ e. omega arith) (λ e. omega arith) x u r e (object_bracketed ms o)

pub array_end : (x u r : Text) (js : Elements) → 91 ∷ u ≡ x ++ r → G.array x js → (q : Text) × ((bracket_end outside 0 u ≡ some q) × (skip_space q ≡ skip_space r))
unfolding opens_bracket closes_bracket
array_end x u r js e a =
    end_bracketed 91 93 (λ e. omega arith) refl (λ e. omega arith) refl refl (λ e. omega arith) (λ e. omega arith) (λ e. omega arith) (λ e. omega arith) x u r e (array_bracketed js a)
