-- TEXTS ARE BYTES: the strings and names of a manifest that is read, and a specifier that is accepted, have bytes below
-- 256. So a path in which each byte is taken for a character, and written in UTF-8, is at most twice as long.
use Rattle.std.specs.Prelude.{◌≡◌, refl, Bool, true, false, not, ◌&&◌, ℕ, zero, suc, ◌*◌, ◌≤◌, ◌<◌, length, take, drop, eqb, leb, ltb, if◌then◌else◌}
use Rattle.std.proofs.Common.{sym, ◌∙◌, arith, length-append, eqb-true, leb-true, ltb-true, lt-ltb}
use Rattle.std.proofs.lemmas.Bool.{false≢true}
use mathlib.Core.List.{List, [], ◌∷◌, ◌++◌, flat_map}
use Rattle.std.proofs.Math.ListN.{length-drop}
use Rattle.definition.specs.Text.{Text, text, hash, question, before, from, replace, contains_text, starts_with, within, trail, utf8, Due, due, bad, due_after, is_utf8_from, is_utf8}
use Rattle.definition.specs.Specifier.{Specifier, parsed, empty_specifier, before_fragment, body, unescape, path_before, or_empty, parse_specifier, package_name, package_subpath, dot_subpath}
use Rattle.definition.specs.Json.{Json, scalar, str, arr, obj, Elements, no_element, element, Members, no_member, got, parse, settled}
use Rattle.definition.specs.Json as json
use Rattle.definition.specs.JsonGrammar as grammar
use Rattle.definition.specs.JsonGrammar.{UTF8, UTF8-1, UTF8-2, UTF8-3, UTF8-4, char, plain, quotation-mark, reverse-solidus, solidus, b-backspace, f-form-feed, n-line-feed, r-carriage-return, t-tab, u-number, u-surrogates, chars, no_char, and-char, between-quotes, is-object, is-array, is-string, full-object, next-member, named, full-array, next-value, a-text, Manifest-text, unmarked, marked}
use Rattle.laws.specs.TextLaws.{and_true}
use Rattle.laws.specs.JsonGrammarLaws.{parse_sound}
use Rattle.laws.specs.ExportsLaws.{Strings, StringsIn, StringsOf}
use Rattle.laws.specs.SettledLaws.{settled_strings}
use Rattle.laws.specs.StringBound.{Small, small_strings}
use Rattle.laws.specs.TextSteps.{before_inside, utf8_bad}
use Rattle.laws.specs.FitLaws.{body_short, unescape_short}

abbrev pub Bytes : Text → Type 0
Bytes [] = Unit {0}
Bytes (b ∷ s) = (b < 256) × Bytes s

-- parts of texts -----------------------------------------------------------------------------------------------------

pub bytes_append : (s t : Text) → Bytes s → Bytes t → Bytes (s ++ t)
bytes_append [] t h k = k
bytes_append (b ∷ s) t h k = (h.0, bytes_append s t h.1 k)

pub bytes_take : (n : ℕ) (s : Text) → Bytes s → Bytes (take n s)
bytes_take zero s h = tt
bytes_take (suc n) [] h = tt
bytes_take (suc n) (b ∷ s) h = (h.0, bytes_take n s h.1)

pub bytes_drop : (n : ℕ) (s : Text) → Bytes s → Bytes (drop n s)
bytes_drop zero s h = h
bytes_drop (suc n) [] h = tt
bytes_drop (suc n) (b ∷ s) h = bytes_drop n s h.1

pub bytes_if : (u : Bool) (s t : Text) → Bytes s → Bytes t → Bytes (if u then s else t)
bytes_if true s t h k = h
bytes_if false s t h k = k

bytes_before : (c : ℕ) (s : Text) → Bytes s → Bytes (before c s)
unfolding before
bytes_before c [] h = tt
bytes_before c (b ∷ s) h = bytes_if (eqb b c) [] (b ∷ before c s) tt (h.0, bytes_before c s h.1)

pub bytes_replace : (c : ℕ) (t s : Text) → Bytes t → Bytes s → Bytes (replace c t s)
unfolding replace
bytes_replace c t [] h k = tt
bytes_replace c t (b ∷ s) h k = bytes_append (if eqb b c then t else b ∷ []) (replace c t s) (bytes_if (eqb b c) t (b ∷ []) h (k.0, tt)) (bytes_replace c t s h k.1)

-- specifiers ----------------------------------------------------------------------------------------------------------

bytes_fragment : (p : ℕ) (s : Text) → Bytes s → Bytes (before_fragment p s)
unfolding before_fragment
bytes_fragment p [] h = tt
bytes_fragment p (b ∷ s) h = bytes_if (eqb b hash && not (eqb p 0)) [] (b ∷ before_fragment b s) tt (h.0, bytes_fragment b s h.1)

bytes_body : (s : Text) → Bytes s → Bytes (body s)
unfolding body
bytes_body [] h = tt
bytes_body (b ∷ s) h = (h.0, bytes_fragment b s h.1)

bytes_unescape : (s : Text) → Bytes s → Bytes (unescape s)
unfolding unescape
bytes_unescape [] h = tt
bytes_unescape (b ∷ s) h =
    bytes_append (if eqb b 0 && starts_with (text "#") s then [] else b ∷ []) (unescape s)
    (bytes_if (eqb b 0 && starts_with (text "#") s) [] (b ∷ []) tt (h.0, tt)) (bytes_unescape s h.1)

-- a byte as a character: one byte or two
record Wide (s : Text) : Type 0 where
  bytes : Bytes s
  short : length s ≤ 2

wide_if : (u : Bool) (s t : Text) → Wide s → (u ≡ false → Wide t) → Wide (if u then s else t)
wide_if true s t h k = h
wide_if false s t h k = k refl

wide : (b : ℕ) → b < 256 → Wide (utf8 b)
unfolding utf8 trail
wide b h =
    wide_if (ltb b 128) _ _ (record { bytes = (h, tt); short = omega arith }) (λ _.
    wide_if (ltb b 2048) _ _ (record { bytes = (omega arith, (omega arith, tt)); short = omega arith }) (λ e. absurd (false≢true (sym e ∙ lt-ltb b 2048 (omega arith)))))

widened : (s : Text) → Bytes s → Bytes (flat_map utf8 s) × (length (flat_map utf8 s) ≤ 2 * length s)
unfolding flat_map
widened [] h = (tt, omega arith)
widened (b ∷ s) h =
    let w = wide b h.0 in
    let i = widened s h.1 in
    (bytes_append (utf8 b) (flat_map utf8 s) w.bytes i.0, let x = w.short in omega (arith, i.1, length-append (utf8 b) (flat_map utf8 s)))

-- the path of a specifier
record PathFits (n : ℕ) (p : Text) : Type 0 where
  pub bytes : Bytes p
  pub short : length p ≤ 2 * n

path_fits : (n : ℕ) (s : Text) → length s ≤ n → Bytes s → PathFits n (path_before s)
unfolding path_before
path_fits n s l h = by (contains_text (0 ∷ hash ∷ []) s)
  where
    b : Text
    b = before question s

    by : (u : Bool) → PathFits n (if u then flat_map utf8 (unescape b) else b)
    by true =
        let w = widened (unescape b) (bytes_unescape b (bytes_before question s h)) in
        record { bytes = w.0; short = omega (arith, w.1, unescape_short b, before_inside question s) }
    by false = record { bytes = bytes_before question s h; short = omega (arith, before_inside question s) }

-- what a text of at most n bytes is parsed into
abbrev pub ParsedFits : ℕ → Specifier → Type 0
ParsedFits n empty_specifier = Unit {0}
ParsedFits n (parsed p q f) = (Bytes p × (length p ≤ 2 * n)) × ((length q ≤ n) × (length f ≤ n))

pub parsed_fits : (n : ℕ) (s : Text) → length s ≤ n → Bytes s → ParsedFits n (parse_specifier s)
unfolding parse_specifier from
parsed_fits n s l h = by (path_before (body s)) (path_fits n (body s) (omega (arith, body_short s)) (bytes_body s h))
  where
    by : (p : Text) → PathFits n p → ParsedFits n (or_empty p (drop (length (before question (body s))) (body s)) (drop (length (body s)) s))
    by [] w = unfold or_empty in tt
    by (b ∷ p) w = unfold or_empty in ((w.bytes, w.short), (omega (arith, length-drop (length (before question (body s))) (body s), body_short s), omega (arith, length-drop (length (body s)) s)))

-- whatever its bytes are
abbrev pub TextsOf : ℕ → Specifier → Type 0
TextsOf n empty_specifier = Unit {0}
TextsOf n (parsed p q f) = (length q ≤ n) × (length f ≤ n)

pub parsed_texts : (n : ℕ) (s : Text) → length s ≤ n → TextsOf n (parse_specifier s)
unfolding parse_specifier from
parsed_texts n s l = by (path_before (body s))
  where
    by : (p : Text) → TextsOf n (or_empty p (drop (length (before question (body s))) (body s)) (drop (length (body s)) s))
    by [] = unfold or_empty in tt
    by (b ∷ p) = unfold or_empty in (omega (arith, length-drop (length (before question (body s))) (body s), body_short s), omega (arith, length-drop (length (body s)) s))

pub bytes_subpath : (s : Text) → Bytes s → Bytes (dot_subpath (package_subpath s))
unfolding dot_subpath package_subpath
bytes_subpath s h =
    let k = bytes_drop (length (package_name s)) s h in
    bytes_if (starts_with (text ".") (drop (length (package_name s)) s)) _ _ k (bytes_append (text ".") (drop (length (package_name s)) s) (omega arith, tt) k)

-- a question's specifier ------------------------------------------------------------------------------------------------

-- a byte that begins a character, and what may follow it
abbrev Follows : Due → Type 0
Follows (due n lo hi) = hi < 256
Follows bad = Unit {0}

-- unless the byte is bad
abbrev Begins : ℕ → Due → Type 0
Begins b (due n lo hi) = (b < 256) × (hi < 256)
Begins b bad = Unit {0}

begins_if : (u : Bool) (b : ℕ) (c d : Due) → (u ≡ true → Begins b c) → Begins b d → Begins b (if u then c else d)
begins_if true b c d h k = h refl
begins_if false b c d h k = k

begins : (b : ℕ) → Begins b (due_after b)
unfolding due_after within
begins b =
    begins_if (ltb b 128) b _ _ (λ e. let h : b < 128 = ltb-true b 128 e in (omega arith, omega arith))
    (begins_if (leb 194 b && leb b 223) b _ _ (λ e. let h : b ≤ 223 = leb-true b 223 (and_true (leb 194 b) (leb b 223) e).1 in (omega arith, omega arith))
    (begins_if (eqb b 224) b _ _ (λ e. let h : b ≡ 224 = eqb-true b 224 e in (omega arith, omega arith))
    (begins_if (eqb b 237) b _ _ (λ e. let h : b ≡ 237 = eqb-true b 237 e in (omega arith, omega arith))
    (begins_if (leb 225 b && leb b 239) b _ _ (λ e. let h : b ≤ 239 = leb-true b 239 (and_true (leb 225 b) (leb b 239) e).1 in (omega arith, omega arith))
    (begins_if (eqb b 240) b _ _ (λ e. let h : b ≡ 240 = eqb-true b 240 e in (omega arith, omega arith))
    (begins_if (leb 241 b && leb b 243) b _ _ (λ e. let h : b ≤ 243 = leb-true b 243 (and_true (leb 241 b) (leb b 243) e).1 in (omega arith, omega arith))
    (begins_if (eqb b 244) b (due 3 128 143) bad (λ e. let h : b ≡ 244 = eqb-true b 244 e in (omega arith, omega arith)) tt)))))))

utf8_from : (s : Text) (d : Due) → Follows d → is_utf8_from s d ≡ true → Bytes s
unfolding is_utf8_from within
utf8_from [] d f h = tt
utf8_from (b ∷ s) bad f h = absurd (false≢true h)
utf8_from (b ∷ s) (due zero lo hi) f h = by (due_after b) (begins b) h (utf8_from s)
  where
    by : (d : Due) → Begins b d → is_utf8_from s d ≡ true → ((d : Due) → Follows d → is_utf8_from s d ≡ true → Bytes s) → Bytes (b ∷ s)
    by (due n lo hi) x e ih = (x.0, ih (due n lo hi) x.1 e)
    by bad x e ih = absurd (false≢true (sym (utf8_bad s) ∙ e))
utf8_from (b ∷ s) (due (suc n) lo hi) f h =
    let p = and_true (leb lo b && leb b hi) (is_utf8_from s (due n 128 191)) h in
    let l : b ≤ hi = leb-true b hi (and_true (leb lo b) (leb b hi) p.0).1 in
    (omega arith, utf8_from s (due n 128 191) (omega arith) p.1)

pub utf8_bytes : (s : Text) → is_utf8 s ≡ true → Bytes s
unfolding is_utf8
utf8_bytes s h = utf8_from s (due 0 0 0) (omega arith) h

-- the strings of a manifest -------------------------------------------------------------------------------------------

character_bytes : {c : ℕ} {s : Text} → UTF8 c s → Bytes s
character_bytes (UTF8-1 w h) = (omega arith, tt)
character_bytes (UTF8-2 z w c a b d e) = (omega arith, (omega arith, tt))
character_bytes (UTF8-3 y z w c a b d e f g) = (omega arith, (omega arith, (omega arith, tt)))
character_bytes (UTF8-4 x y z w c a b d e f g) = (omega arith, (omega arith, (omega arith, (omega arith, tt))))

char_bytes : {s t : Text} → char s t → Bytes t
char_bytes (plain u c) = character_bytes c
char_bytes quotation-mark = (omega arith, tt)
char_bytes reverse-solidus = (omega arith, tt)
char_bytes solidus = (omega arith, tt)
char_bytes b-backspace = (omega arith, tt)
char_bytes f-form-feed = (omega arith, tt)
char_bytes n-line-feed = (omega arith, tt)
char_bytes r-carriage-return = (omega arith, tt)
char_bytes t-tab = (omega arith, tt)
char_bytes (u-number h c) = character_bytes c
char_bytes (u-surrogates a b c d e u) = character_bytes u

chars_bytes : {s t : Text} → chars s t → Bytes t
chars_bytes no_char = tt
chars_bytes (and-char {x = x} {y = y} c cs) = bytes_append x y (char_bytes c) (chars_bytes cs)

string_bytes : {s t : Text} → grammar.string s t → Bytes t
string_bytes (between-quotes c) = chars_bytes c

mutual
  unfolding Strings

  value_bytes : (j : Json) {s : Text} → grammar.value s j → Strings Bytes j
  value_bytes scalar v = tt
  value_bytes (str t) (is-string v) = string_bytes v
  value_bytes (arr js) (is-array a) = array_bytes js a
  value_bytes (obj ms) (is-object o) = object_bytes ms o

  object_bytes : (ms : Members) {s : Text} → grammar.object s ms → StringsOf Bytes ms
  object_bytes no_member o = tt
  object_bytes (json.member k j ms) (full-object x (named n y v) mm z) = (string_bytes n, (value_bytes j v, members_bytes ms mm))

  members_bytes : (ms : Members) {s : Text} → grammar.more-members s ms → StringsOf Bytes ms
  members_bytes no_member o = tt
  members_bytes (json.member k j ms) (next-member x (named n y v) mm) = (string_bytes n, (value_bytes j v, members_bytes ms mm))

  array_bytes : (js : Elements) {s : Text} → grammar.array s js → StringsIn Bytes js
  array_bytes no_element o = tt
  array_bytes (element j js) (full-array x v vv y) = (value_bytes j v, values_bytes js vv)

  values_bytes : (js : Elements) {s : Text} → grammar.more-values s js → StringsIn Bytes js
  values_bytes no_element o = tt
  values_bytes (element j js) (next-value x v vv) = (value_bytes j v, values_bytes js vv)

text_bytes : {s : Text} {j : Json} → grammar.JSON-text s j → Strings Bytes j
text_bytes {j = j} (a-text x v y) = value_bytes j v

manifest_bytes : {s : Text} {j : Json} → Manifest-text s j → Strings Bytes j
manifest_bytes (unmarked k) = text_bytes k
manifest_bytes (marked k) = text_bytes k

-- both
abbrev pub SmallBytes : Text → Type 0
SmallBytes s = Small s × Bytes s

mutual
  unfolding Strings

  both : (j : Json) → Strings Small j → Strings Bytes j → Strings SmallBytes j
  both scalar h k = tt
  both (str s) h k = (h, k)
  both (arr js) h k = both_in js h k
  both (obj ms) h k = both_of ms h k

  both_in : (js : Elements) → StringsIn Small js → StringsIn Bytes js → StringsIn SmallBytes js
  both_in no_element h k = tt
  both_in (element j js) h k = (both j h.0 k.0, both_in js h.1 k.1)

  both_of : (ms : Members) → StringsOf Small ms → StringsOf Bytes ms → StringsOf SmallBytes ms
  both_of no_member h k = tt
  both_of (json.member n j ms) h k = ((h.0, k.0), (both j h.1.0 k.1.0, both_of ms h.1.1 k.1.1))

pub manifest_strings : (b : List ℕ) (j : Json) (r : List ℕ) → parse b ≡ got j r → Strings SmallBytes (settled j)
manifest_strings b j r e = both (settled j) (small_strings b j r e) (settled_strings Bytes j (manifest_bytes (parse_sound b j r e).in_grammar))
