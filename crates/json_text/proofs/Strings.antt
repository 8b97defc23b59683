-- Strings read without decoding them, and texts that have no escape.
use mathlib.Core.Path.{◌≡◌, refl, sym, ◌∙◌, ap}
use mathlib.Core.Bool.{Bool, true, false, ◌||◌}
use mathlib.Core.List.{List, [], ◌∷◌, ◌++◌}
use Prim.Native.Nat.{ℕ, zero, suc, ◌+◌, ◌-◌, ◌<◌, ◌≤◌}
use native.Mathlib.Omega.{arith}
use lib.ListN.{length, drop, take, get_or, length-take, length-drop}
use lib.Seq.{drop-drop}
use lib.Dec.{eqb, ltb, leb}
use borrow.Author.Tests.{eq-eqb, ne_eqb, eqb-true, eqb-false, lt-leb, le-leb, ltb-true, ltb-false, leb-true, leb-false}
use Rattle.std.specs.Prelude.{if◌then◌else◌, not, cond, Option, Some, None, Ok}
use Rattle.std.specs.Option.{option_eq}
use Rattle.std.specs.List.{prefix_len}
use Rattle.std.proofs.lemmas.Bool.Decides.{nat_tests}
use Rattle.definition.specs.Text.{within, equal}
use Rattle.laws.specs.Local.{and_then_both}
use Rattle.definition.specs.JsonAt.{has_escape}
use Rattle.definition.specs.Json as json
use Rattle.definition.specs.Json.{got, fault, malformed, beyond, and_then, between, sequence, bad, gives, plain_byte, sequence_byte, step, go_on, string, quoted}
use Rattle.json_text.specs.Scanned.{left, Left, Reads}
use Rattle.json_text.specs.Decoded.{is_plain, Begun, plain}
use Rattle.json_text.specs.Texts.{starts_quote}
use Rattle.json_string.proofs.Rules.{here, past}
use Rattle.json_text.proofs.Laws.{left_map}
use Rattle.json_text.proofs.Positions.{prefix_fits}

none : {P : Type 0} → ⊥ → P
none z = absurd z

-- as many bytes are plain as come before the first quote or backslash
pub plain_len : (s : List ℕ) → prefix_len (λ b. not (eqb b 34 || eqb b 92)) s ≡ length (plain s)
unfolding plain
plain_len [] = refl
plain_len (b ∷ s) = go (eqb b 34 || eqb b 92) (plain_len s)
  where
    go : (x : Bool) → prefix_len (λ b. not (eqb b 34 || eqb b 92)) s ≡ length (plain s)
        → cond (not x) (1 + prefix_len (λ b. not (eqb b 34 || eqb b 92)) s) 0 ≡ length (if x then [] else b ∷ plain s)
    go true h = refl
    go false h = omega (arith, h)

pub plain_prefix : (s : List ℕ) → take (length (plain s)) s ≡ plain s
unfolding plain
plain_prefix [] = refl
plain_prefix (b ∷ s) = go (eqb b 34 || eqb b 92) (plain_prefix s)
  where
    go : (p : Bool) → take (length (plain s)) s ≡ plain s
        → take (length (if p then [] else b ∷ plain s)) (b ∷ s) ≡ (if p then [] else b ∷ plain s)
    go true h = refl
    go false h = ap (λ t. b ∷ t) h

-- where a string's reader stands while it meets no escape
pub data Calm : json.Place → Type 0 where
  free : Calm between
  inner : (n lo hi : ℕ) → 128 ≤ lo → Calm (sequence n lo hi)

-- what a plain byte does there
data Does (b : ℕ) : json.Step → Type 0 where
  wrong : Does b bad
  itself : {p : json.Place} → Calm p → Does b (gives (b ∷ []) p)

does_if : (b : ℕ) (p : Bool) {x y : json.Step} → Does b x → Does b y → Does b (if p then x else y)
does_if b true f g = f
does_if b false f g = g

does_sequence : (n b : ℕ) → Does b (sequence_byte n b)
unfolding sequence_byte
does_sequence zero b = wrong
does_sequence (suc zero) b = itself free
does_sequence (suc (suc n)) b = itself (inner (suc n) 128 191 (omega arith))

does : (p : json.Place) → Calm p → (b : ℕ) → (b ≡ 34 → ⊥) → (b ≡ 92 → ⊥) → Does b (step p b)
unfolding step plain_byte
does p free b q a =
    rw (ne_eqb b 34 q, ne_eqb b 92 a)
    (does_if b (ltb b 32) wrong
    (does_if b (ltb b 128) (itself free)
    (does_if b (within 194 223 b) (itself (inner 1 128 191 (omega arith)))
    (does_if b (eqb b 224) (itself (inner 2 160 191 (omega arith)))
    (does_if b (eqb b 237) (itself (inner 2 128 159 (omega arith)))
    (does_if b (within 225 239 b) (itself (inner 2 128 191 (omega arith)))
    (does_if b (eqb b 240) (itself (inner 3 144 191 (omega arith)))
    (does_if b (within 241 243 b) (itself (inner 3 128 191 (omega arith)))
    (does_if b (eqb b 244) (itself (inner 3 128 143 (omega arith))) wrong)))))))))
does p (inner n lo hi h) b q a = does_if b (within lo hi b) (does_sequence n b) wrong

-- a string was read from a byte on that gives decoded bytes
took : (room : ℕ) (q : json.Place) (s out t r : List ℕ) → go_on (gives out q) room (λ r q. string r q s) s ≡ got t r
    → (u : List ℕ) × ((string (room - length out) q s ≡ got u r) × (t ≡ out ++ u))
unfolding go_on
took room q s out t r h = go (leb (length out) room) h
  where
    go : (b : Bool)
        → (if b then and_then (string (room - length out) q s) (λ t r. got (out ++ t) r) else fault beyond) ≡ got t r
        → (u : List ℕ) × ((string (room - length out) q s ≡ got u r) × (t ≡ out ++ u))
    go true h = let k = and_then_both (string (room - length out) q s) (λ t r. got (out ++ t) r) t r h in (k.value, (k.first ∙ (let z : k.rest ≡ r = cc k.second in ap (λ x. got k.value x) z), cc k.second))
    go false h = none (let z : ◌≡◌ {A = ℕ} 0 1 = cc in omega arith)

unread : (room : ℕ) (s t r : List ℕ) → go_on bad room (λ r q. string r q s) s ≡ got t r → ⊥
unfolding go_on
unread room s t r h = let z : ◌≡◌ {A = ℕ} 0 1 = cc in omega arith

-- a plain byte of a string, and the rest of it
calm_next : (b room : ℕ) (s t r : List ℕ) (p : json.Place) → Calm p → (b ≡ 34 → ⊥) → (b ≡ 92 → ⊥)
    → go_on (step p b) room (λ r q. string r q s) s ≡ got t r
    → (q : json.Place) × (Calm q × ((u : List ℕ) × ((string (room - 1) q s ≡ got u r) × (t ≡ b ∷ u))))
calm_next b room s t r p c n a h = go (step p b) (does p c b n a) h
  where
    go : (x : json.Step) → Does b x → go_on x room (λ r q. string r q s) s ≡ got t r
        → (q : json.Place) × (Calm q × ((u : List ℕ) × ((string (room - 1) q s ≡ got u r) × (t ≡ b ∷ u))))
    go x wrong h = none (unread room s t r h)
    go x (itself {p = q} d) h = (q, (d, took room q s (b ∷ []) t r h))

-- the closing quote
ends : (p : json.Place) → Calm p → (room : ℕ) (s t r : List ℕ)
    → go_on (step p 34) room (λ r q. string r q s) s ≡ got t r → t ≡ []
unfolding go_on step plain_byte within
ends p free room s t r h = cc
ends p (inner n lo hi l) room s t r h = let z = rw (lt-leb lo 34 (omega arith)) at h in cc

-- a string that ends at the first quote or backslash is its own bytes
plain_string : (s : List ℕ) (room : ℕ) (p : json.Place) → Calm p → (t r : List ℕ) → string room p s ≡ got t r
    → (u : List ℕ) → drop (length (plain s)) s ≡ 34 ∷ u → t ≡ plain s
unfolding string plain
plain_string [] room p c t r h u e = cc
plain_string (b ∷ s) room p c t r h u e =
    go (eqb b 34) (eqb b 92) refl refl (λ room p c t r h. λ e. plain_string s room p c t r h u e) e
  where
    go : (x y : Bool) → eqb b 34 ≡ x → eqb b 92 ≡ y
        → ((room : ℕ) (p : json.Place) → Calm p → (t r : List ℕ) → string room p s ≡ got t r → drop (length (plain s)) s ≡ 34 ∷ u → t ≡ plain s)
        → drop (length (if x || y then [] else b ∷ plain s)) (b ∷ s) ≡ 34 ∷ u → t ≡ (if x || y then [] else b ∷ plain s)
    go true y ex ey f e = let z : b ≡ 34 = eqb-true b 34 ex in ends p c room s t r (rw z at h)
    go false true ex ey f e = none (eqb-false b 34 ex (let z : b ≡ 34 = cc in z))
    go false false ex ey f e = let z = calm_next b room s t r p c (eqb-false b 34 ex) (eqb-false b 92 ey) h in z.1.1.1.1 ∙ ap (λ x. b ∷ x) (f (room - 1) z.0 z.1.0 z.1.1.0 r z.1.1.1.0 e)

-- a string whose bytes before the first quote or backslash end otherwise has an escape; one that ends there has none
pub escape_there : (s : List ℕ) (room : ℕ) (p : json.Place) → Calm p → (t r : List ℕ) → string room p s ≡ got t r
    → starts_quote (drop (length (plain s)) s) ≡ false → has_escape s ≡ true
unfolding string plain has_escape
escape_there [] room p c t r h e = cc
escape_there (b ∷ s) room p c t r h e = go (eqb b 34) (eqb b 92) refl refl (escape_there s) e
  where
    go : (x y : Bool) → eqb b 34 ≡ x → eqb b 92 ≡ y
        → ((room : ℕ) (p : json.Place) → Calm p → (t r : List ℕ) → string room p s ≡ got t r → starts_quote (drop (length (plain s)) s) ≡ false → has_escape s ≡ true)
        → starts_quote (drop (length (if x || y then [] else b ∷ plain s)) (b ∷ s)) ≡ false → (if x then false else if y then true else has_escape s) ≡ true
    go true y ex ey f e = sym e ∙ ex
    go false true ex ey f e = refl
    go false false ex ey f e = let z = calm_next b room s t r p c (eqb-false b 34 ex) (eqb-false b 92 ey) h in f (room - 1) z.0 z.1.0 z.1.1.0 r z.1.1.1.0 e

pub no_escape : (s u : List ℕ) → drop (length (plain s)) s ≡ 34 ∷ u → has_escape s ≡ false
unfolding plain has_escape
no_escape [] u e = refl
no_escape (b ∷ s) u e = go (eqb b 34) (eqb b 92) refl (no_escape s u) e
  where
    go : (x y : Bool) → eqb b 34 ≡ x → (drop (length (plain s)) s ≡ 34 ∷ u → has_escape s ≡ false)
        → drop (length (if x || y then [] else b ∷ plain s)) (b ∷ s) ≡ 34 ∷ u
        → (if x then false else if y then true else has_escape s) ≡ false
    go true y ex f e = refl
    go false true ex f e = none (eqb-false b 34 ex (let z : b ≡ 34 = cc in z))
    go false false ex f e = f e

-- a string from its opening quote
pub quoted_string : (m : List ℕ) (at : ℕ) (k s : List ℕ) → at < length m → quoted (drop at m) ≡ got k s
    → string 1024 between (drop (at + 1) m) ≡ got k s
unfolding quoted
quoted_string m at k s l h = go (eqb (get_or m at 0) 34) (rw (here m at l) at h)
  where
    go : (b : Bool) → (if b then string 1024 between (drop (at + 1) m) else fault malformed) ≡ got k s
        → string 1024 between (drop (at + 1) m) ≡ got k s
    go true h = h
    go false h = cc

pub quoted_out : (m : List ℕ) (at : ℕ) → length m ≤ at → quoted (drop at m) ≡ fault malformed
unfolding quoted
quoted_out m at l = rw (past m at l)

pub quoted_beyond : {P : Type 0} (m : List ℕ) (at : ℕ) {k s : List ℕ} → length m ≤ at → quoted (drop at m) ≡ got k s → P
quoted_beyond m at l h = none (let z = quoted_out m at l in let y : ◌≡◌ {A = ℕ} 0 1 = cc in omega arith)

pub quoted_inside : (m : List ℕ) (at : ℕ) {k s : List ℕ} → quoted (drop at m) ≡ got k s → at < length m
quoted_inside m at h = go (ltb at (length m)) refl
  where
    go : (b : Bool) → ltb at (length m) ≡ b → at < length m
    go true e = ltb-true _ _ e
    go false e = quoted_beyond m at (ltb-false _ _ e) h

-- a string whose first quote or backslash is a quote is the bytes before it
pub plain_stop_at : (m : List ℕ) (from r : ℕ) → r ≡ from + length (plain (drop from m))
    → drop (length (plain (drop from m))) (drop from m) ≡ drop r m
plain_stop_at m from r e = drop-drop (length (plain (drop from m))) from m ∙ ap (λ n. drop n m) (sym e)

pub text_plain : (m : List ℕ) (from r : ℕ) {s t : List ℕ} (u : List ℕ) → string 1024 between (drop from m) ≡ got s t
    → r ≡ from + length (plain (drop from m)) → drop r m ≡ 34 ∷ u → take (r - from) (drop from m) ≡ s
text_plain m from r {s} {t} u h e q =
    let k : r - from ≡ length (plain (drop from m)) = omega arith in
    rw k (plain_prefix (drop from m))
    ∙ sym (plain_string (drop from m) 1024 between free s t h u (plain_stop_at m from r e ∙ q))

-- a string that was read, behind its opening quote; its first quote or backslash is a backslash
pub quoted_read : (m : List ℕ) (at : ℕ) {k s : List ℕ} → quoted (drop at m) ≡ got k s
    → string 1024 between (drop (at + 1) m) ≡ got k s
quoted_read m at {k} {s} h = quoted_string m at k s (quoted_inside m at h) h

pub escaped : (m : List ℕ) (at : ℕ) {k s : List ℕ} → quoted (drop at m) ≡ got k s → (r : ℕ)
    → r ≡ at + 1 + length (plain (drop (at + 1) m)) → starts_quote (drop r m) ≡ false
    → has_escape (drop (at + 1) m) ≡ true
escaped m at {k} {s} h r e q =
    escape_there (drop (at + 1) m) 1024 between free k s (quoted_read m at h) (ap starts_quote (plain_stop_at m (at + 1) r e) ∙ q)

pub starts_quote_lem : (s : List ℕ) → starts_quote s ≡ true → (u : List ℕ) × (s ≡ 34 ∷ u)
starts_quote_lem [] e = none (let z : ◌≡◌ {A = Bool} false true = e in let y : ◌≡◌ {A = ℕ} 0 1 = cc in omega arith)
starts_quote_lem (b ∷ s) e = (s, ap (λ x. x ∷ s) (eqb-true b 34 e))

pub quote_there : (s t : List ℕ) (first : Option ℕ) {b : Bool} → Left first s t → option_eq eqb first (Some 34) ≡ b
    → starts_quote s ≡ b
quote_there s t None l e = rw l e
quote_there s t (Some x) l e = rw l e

-- a byte that gives decoded bytes
gives_left : (room : ℕ) (p q : json.Place) (b : ℕ) (s out : List ℕ) → step p b ≡ gives out q → length out ≤ room
    → left (string room p (b ∷ s)) ≡ left (string (room - length out) q s)
unfolding string go_on
gives_left room p q b s out e h =
    rw e (rw (le-leb (length out) room h) (left_map (λ t. out ++ t) (string (room - length out) q s)))

-- ASCII bytes that stand for themselves
ascii_step : (b : ℕ) → is_plain b ≡ true → step between b ≡ gives (b ∷ []) between
unfolding step plain_byte
ascii_step b e = grind (arith, nat_tests)

plain_run : (s : List ℕ) (room k : ℕ) → k ≤ room
    → left (string room between s) ≡ left (string (room - prefix_len is_plain (take k s)) between (drop (prefix_len is_plain (take k s)) s))
plain_run s room zero l = let z : room - 0 ≡ room = omega arith in rw z
plain_run [] room (suc k) l = let z : room - 0 ≡ room = omega arith in rw z
plain_run (b ∷ s) room (suc k) l = go (is_plain b) refl (plain_run s (room - 1) k (omega arith))
  where
    go : (x : Bool) → is_plain b ≡ x
        → left (string (room - 1) between s) ≡ left (string (room - 1 - prefix_len is_plain (take k s)) between (drop (prefix_len is_plain (take k s)) s))
        → left (string room between (b ∷ s)) ≡ left (string (room - cond x (1 + prefix_len is_plain (take k s)) 0) between (drop (cond x (1 + prefix_len is_plain (take k s)) 0) (b ∷ s)))
    go true e h =
        let n = prefix_len is_plain (take k s) in
        let z : room - (1 + n) ≡ room - 1 - n = omega arith in
        let y : 1 + n ≡ suc n = omega arith in
        gives_left room between between b s (b ∷ []) (ascii_step b e) (omega arith) ∙ h ∙ sym (rw (z, y))
    go false e h = let z : room - 0 ≡ room = omega arith in rw z

pub begun : (m : List ℕ) (at n : ℕ) → n ≡ prefix_len is_plain (take 1024 (drop at m)) → Begun m at (at + n)
begun m at n e =
    let z : at + n - at ≡ n = omega arith in
    let y = prefix_fits is_plain (take 1024 (drop at m)) in
    record {
      from = omega arith;
      room = omega (arith, length-take 1024 (drop at m));
      rest = (rw (sym e) at (plain_run (drop at m) 1024 1024 (omega arith))) ∙ rw (z, drop-drop n at m);
    }

pub ends_within : (m : List ℕ) (at n : ℕ) → n ≡ prefix_len is_plain (take 1024 (drop at m)) → n ≤ length m - at
ends_within m at n e = let y = prefix_fits is_plain (take 1024 (drop at m)) in omega (arith, length-take 1024 (drop at m), length-drop at m)

pub begun_quote : {m : List ℕ} {at i b : ℕ} → Begun m at i → drop i m ≡ b ∷ drop (i + 1) m → b ≡ 34
    → Reads m (string 1024 between (drop at m)) (Ok (i + 1))
unfolding string go_on step plain_byte
begun_quote g l q = record { is = g.rest ∙ rw (l, q) }

same_byte : (b c : ℕ) → eqb b c ≡ eqb c b
same_byte b c = go (eqb b c) refl
  where
    go : (x : Bool) → eqb b c ≡ x → x ≡ eqb c b
    go true e = sym (eq-eqb c b (sym (eqb-true b c e)))
    go false e = sym (ne_eqb c b (λ z. eqb-false b c e (sym z)))

pub opposite : (x : Bool) {r y : Bool} → r ≡ not x → r ≡ y → x ≡ not y
opposite true e h = ap not (sym e ∙ h)
opposite false e h = ap not (sym e ∙ h)

-- a text is compared with what is left of another: to the end of both
pub ends_both : (key : List ℕ) (k : ℕ) → leb (length key) k ≡ equal [] (drop k key)
unfolding equal
ends_both key k = go (leb (length key) k) refl
  where
    go : (b : Bool) → leb (length key) k ≡ b → b ≡ equal [] (drop k key)
    go true e = rw (past key k (leb-true _ _ e))
    go false e = rw (here key k (leb-false _ _ e))

-- the comparison so far: the text t of the string from `at` on against the key, and u of what is left of it against what is left of the key
pub record Compared (m key : List ℕ) (p : json.Place) (i k : ℕ) (t s from : List ℕ) : Type 0 where
  pub room : ℕ
  pub text : List ℕ
  pub reads : string room p (drop i m) ≡ got text s
  pub same : equal t from ≡ equal text (drop k key)

pub compared_out : {m key : List ℕ} {i k : ℕ} {t s from : List ℕ} {p : json.Place} {P : Type 0}
    → Compared m key p i k t s from → length m ≤ i → P
unfolding string
compared_out {m} {i = i} c l = none (let h = rw (past m i l) at c.reads in let z : ◌≡◌ {A = ℕ} 0 1 = cc in omega arith)

-- the same byte by byte, while no escape was met
pub record Verbatim (m key : List ℕ) (i k : ℕ) (t s : List ℕ) : Type 0 where
  pub place : json.Place
  pub calm : Calm place
  pub so_far : Compared m key place i k t s key

pub verbatim_start : (m key t s : List ℕ) → string 1024 between m ≡ got t s → Verbatim m key 0 0 t s
verbatim_start m key t s h =
    record { place = between; calm = free; so_far = record { room = 1024; text = t; reads = h; same = refl } }

module _ {m key : List ℕ} {i k : ℕ} {t s : List ℕ} (v : Verbatim m key i k t s) (l : i < length m) where
  byte : go_on (step v.place (get_or m i 0)) v.so_far.room (λ r q. string r q (drop (i + 1) m)) (drop (i + 1) m)
      ≡ got v.so_far.text s
  unfolding string
  byte = rw (here m i l) at v.so_far.reads

  pub verbatim_close : get_or m i 0 ≡ 34 → equal [] (drop k key) ≡ equal t key
  verbatim_close e = let z : v.so_far.text ≡ [] = ends v.place v.calm v.so_far.room (drop (i + 1) m) v.so_far.text s (rw e at byte) in sym (v.so_far.same ∙ rw z)

  module _ (q : get_or m i 0 ≡ 34 → ⊥) (a : get_or m i 0 ≡ 92 → ⊥) where
    there : (p : json.Place) × (Calm p × ((u : List ℕ) × ((string (v.so_far.room - 1) p (drop (i + 1) m) ≡ got u s) × (v.so_far.text ≡ get_or m i 0 ∷ u))))
    there = calm_next (get_or m i 0) v.so_far.room (drop (i + 1) m) v.so_far.text s v.place v.calm q a byte

    -- the key's byte there, or its end
    module _ (first : Option ℕ) (kl : Left first (drop k key) (drop (k + 1) key)) where
      pub verbatim_other : option_eq eqb first (Some (get_or m i 0)) ≡ false → false ≡ equal t key
      unfolding equal
      verbatim_other d = let z = there in sym (v.so_far.same ∙ rw z.1.1.1.1 (go first kl d))
        where
          go : (first : Option ℕ) → Left first (drop k key) (drop (k + 1) key)
              → option_eq eqb first (Some (get_or m i 0)) ≡ false
              → equal (get_or m i 0 ∷ there.1.1.0) (drop k key) ≡ false
          go None l d = rw l
          go (Some x) l d = rw (l, same_byte (get_or m i 0) x ∙ d)

      pub verbatim_on : option_eq eqb first (Some (get_or m i 0)) ≡ true → Verbatim m key (i + 1) (k + 1) t s
      unfolding equal
      verbatim_on d =
          let z = there in
          record {
            place = z.0;
            calm = z.1.0;
            so_far = record {
              room = v.so_far.room - 1;
              text = z.1.1.0;
              reads = z.1.1.1.0;
              same = v.so_far.same ∙ ap (λ x. equal x (drop k key)) z.1.1.1.1 ∙ go first kl d;
            };
          }
        where
          go : (first : Option ℕ) → Left first (drop k key) (drop (k + 1) key)
              → option_eq eqb first (Some (get_or m i 0)) ≡ true
              → equal (get_or m i 0 ∷ there.1.1.0) (drop k key) ≡ equal there.1.1.0 (drop (k + 1) key)
          go None l d = none (let z : ◌≡◌ {A = ℕ} 0 1 = cc in omega arith)
          go (Some x) l d = rw (l, same_byte (get_or m i 0) x ∙ d)
