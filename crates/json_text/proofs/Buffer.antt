-- Decoded bytes in a buffer, the loop that decodes a string, and what it found.
use mathlib.Core.Path.{◌≡◌, refl, sym, ◌∙◌, ap}
use mathlib.Core.List.{List, [], ◌++◌, append_assoc, append-nil}
use Prim.Native.Nat.{ℕ, ◌+◌, ◌-◌, ◌<◌, ◌≤◌}
use native.Mathlib.Omega.{arith}
use lib.ListN.{length, drop, take, get_or}
use Rattle.std.specs.Prelude.{Option, Some, None, Result, Ok, Err}
use Rattle.std.specs.Result.{result_ok}
use lib.Seq.{drop-drop}
use borrow.Author.Tests.{le-leb, lt-leb}
use Rattle.std.specs.Char.{encode_utf8}
use Rattle.std.proofs.lemmas.Slice.{take-put_mid, drop-put_mid}
use borrow.Rule.Slice.PartMut.{put_mid}
use Rattle.definition.specs.Text.{utf8, trail}
use Rattle.definition.specs.Json as json
use Rattle.definition.specs.Json.{Read, got, fault, malformed, beyond, and_then, between, string, go_on, step}
use Rattle.json_string.specs.declared.Place.{Place}
use Rattle.json_string.specs.declared.Out.{Out}
use Rattle.json_string.specs.declared.Step.{Step}
use Rattle.json_string.specs.declared.Step.TheVariants.{Close, Gives}
use Rattle.json_string.specs.Automaton.{place_of, out_of, step_of, Good, Steps, advanced}
use Rattle.json_string.proofs.Steps.{advanced_good}
use Rattle.json_text.specs.Scanned.{fault_of}
use Rattle.json_text.specs.Decoded.{Stands, Decodes}
use Rattle.json_text.specs.declared.Decoded.{Decoded}
use Rattle.json_text.specs.declared.Fault as code
use Rattle.json_string.proofs.Rules.{here, past}

pub put_none : (w : List ℕ) (n : ℕ) → n ≤ 1024 → Stands w w n [] n
put_none w n h = record { count = omega arith; room = h; bytes = sym (append-nil _); kept = refl }

pub put_bytes : (w out now : List ℕ) (n k : ℕ) → k ≡ n + length out → k ≤ 1024 → 1024 ≤ length w → now ≡ out
    → Stands w (put_mid n (k - n) w now) n out k
put_bytes w out now n k c h l e =
    let z : k ≡ n + length now = c ∙ ap (λ x. n + length x) (sym e) in
    record {
      count = c;
      room = h;
      bytes = take-put_mid n (k - n) w now k z (omega arith) ∙ ap (λ x. take n w ++ x) e;
      kept = drop-put_mid n (k - n) w now k (omega arith) (omega arith) (omega arith);
    }

pub utf8_bytes : (c : ℕ) → encode_utf8 c ≡ utf8 c
unfolding encode_utf8 utf8 trail
utf8_bytes c = refl

-- the loop: what is read so far stands in the buffer, and the rest is the definition's
pub record Going (m : List ℕ) (at : ℕ) (w₀ w : List ℕ) (p : Place) (i n : ℕ) : Type 0 where
  pub room : n ≤ 1024
  pub good : Good p
  pub kept : drop n w ≡ drop n w₀
  pub rest : string 1024 between (drop at m)
      ≡ and_then (string (1024 - n) (place_of p) (drop i m)) (λ t r. got (take n w ++ t) r)

pub begin : (m : List ℕ) (at : ℕ) (w : List ℕ) → Going m at w w Place.Between at 0
begin m at w = record { room = omega arith; good = tt; kept = refl; rest = go (string 1024 between (drop at m)) }
  where
    go : (x : Read (List ℕ)) → x ≡ and_then x (λ t r. got t r)
    go (got a s) = refl
    go (fault n) = refl

module _ {m : List ℕ} {at : ℕ} {w₀ w : List ℕ} {p : Place} {i n : ℕ} (g : Going m at w₀ w p i n) where
  pub at_end_lem : length m ≤ i → string 1024 between (drop at m) ≡ fault malformed
  unfolding string
  at_end_lem l = g.rest ∙ rw (past m i l)

  module _ (l : i < length m) {s : Option Step} (a : Steps (advanced p (get_or m i 0)) s) where
    e : Steps (step (place_of p) (get_or m i 0)) s
    e = advanced_good p (get_or m i 0) g.good a

    turn : string 1024 between (drop at m)
        ≡ and_then (go_on (step_of s) (1024 - n) (λ r q. string r q (drop (i + 1) m)) (drop (i + 1) m)) (λ t r. got (take n w ++ t) r)
    unfolding string
    turn = g.rest ∙ rw (here m i l) (rw (sym e.is))

  module _ (l : i < length m) where
    pub on_bad : Steps (advanced p (get_or m i 0)) None → string 1024 between (drop at m) ≡ fault malformed
    unfolding go_on
    on_bad a = turn l a

    pub on_close : Steps (advanced p (get_or m i 0)) (Some Close)
        → string 1024 between (drop at m) ≡ got (take n w) (drop (i + 1) m)
    unfolding go_on
    on_close a = turn l a ∙ rw (append-nil (take n w))

    module _ {o : Option Out} {q : Place} (a : Steps (advanced p (get_or m i 0)) (Some (Gives o q))) where
      pub on_over : 1024 < n + length (out_of o) → string 1024 between (drop at m) ≡ fault beyond
      unfolding go_on
      on_over k = turn l a ∙ rw (lt-leb (length (out_of o)) (1024 - n) (let z = g.room in omega arith))

      pub on_gives : {w' : List ℕ} {k : ℕ} → Stands w w' n (out_of o) k → Going m at w₀ w' q (i + 1) k
      unfolding go_on
      on_gives {w'} {k} s = record {
        room = s.room;
        good = (e l a).good;
        kept =
            s.kept
            ∙ rw s.count (sym (drop-drop (length (out_of o)) n w) ∙ ap (drop (length (out_of o))) g.kept ∙ drop-drop (length (out_of o)) n w₀);
        rest =
            turn l a
            ∙ rw (le-leb (length (out_of o)) (1024 - n) (let z = s.count in let y = s.room in omega arith))
            (rw (let z = s.count in let y = s.room in left_over) (go (string (1024 - k) (place_of q) (drop (i + 1) m))));
      }
        where
          left_over : 1024 - n - length (out_of o) ≡ 1024 - k
          left_over = let z = s.count in let y = s.room in omega arith

          go : (x : Read (List ℕ))
              → and_then (and_then x (λ t r. got (out_of o ++ t) r)) (λ t r. got (take n w ++ t) r) ≡ and_then x (λ t r. got (take k w' ++ t) r)
          go (got t r) = rw (s.bytes, append_assoc)
          go (fault f) = refl

-- what was decoded, where only that was asked for
pub record Gave (m w₀ w : List ℕ) (x : Read (List ℕ)) (t : Decoded) : Type 0 where
  pub text : x ≡ got (take t.len w) (drop t.end m)
  pub room : t.len ≤ 1024
  pub kept : drop t.len w ≡ drop t.len w₀

module _ {m w₀ w : List ℕ} {x : Read (List ℕ)} where
  pub gave : {t : Decoded} → Decodes m w₀ w x (Ok t) → Gave m w₀ w x t
  gave d = record { text = d.is; room = d.kept.0; kept = d.kept.1 }

  pub gave_some : (r : Result Decoded code.Fault) {o : Option Decoded} {t : Decoded} → Decodes m w₀ w x r
      → o ≡ result_ok r → o ≡ Some t → Gave m w₀ w x t
  gave_some (Ok u) {o} {t} d e q = let z : u ≡ t = cc in gave (rw z at d)
  gave_some (Err f) d e q = absurd (let z : ◌≡◌ {A = ℕ} 0 1 = cc in omega arith)

  pub gave_none : (r : Result Decoded code.Fault) {o : Option Decoded} → Decodes m w₀ w x r → o ≡ result_ok r → o ≡ None
      → (f : json.Fault) × (x ≡ fault f)
  gave_none (Ok u) d e q = absurd (let z : ◌≡◌ {A = ℕ} 0 1 = cc in omega arith)
  gave_none (Err f) d e q = (fault_of f, d.is)
