-- A string's text and a string that is a given text, by what the code read.
use mathlib.Core.Path.{◌≡◌, refl, sym, ◌∙◌, ap}
use mathlib.Core.Bool.{Bool, true, false}
use mathlib.Core.List.{List, [], ◌∷◌, ◌++◌}
use mathlib.Core.Option.{none, some}
use Prim.Native.Nat.{ℕ, ◌+◌, ◌-◌, ◌<◌, ◌≤◌}
use native.Mathlib.Omega.{arith}
use lib.ListN.{length, drop, take, take-append-drop}
use lib.Seq.{drop-drop, take_all, length-take-le}
use borrow.Author.Tests.{le-leb, lt-leb, ne_eqb}
use Rattle.std.specs.List.{slice_range}
use Rattle.std.proofs.lemmas.Slice.{between_to_end}
use Rattle.std.specs.Prelude.{Option as Answer, Result, Ok, Err, is_ok}
use Rattle.definition.specs.Text.{equal, overwrite}
use Rattle.definition.specs.Json.{Read, got, fault, Fault, between, string, quoted}
use Rattle.definition.specs.JsonAt.{is_text, name_is, has_escape, told_at, text_at}
use Rattle.laws.specs.JsonAtLaws.{text_told}
use Rattle.json_text.specs.Scanned.{Reads}
use Rattle.json_text.specs.Texts.{text_of, told, or_empty}
use Rattle.json_text.specs.declared.TextAt.{TextAt}
use Rattle.json_text.specs.declared.Fault as code
use Rattle.json_text.proofs.Laws.{was_end, was_fault}

-- a name: by the string behind its quote
module _ (m key : List ℕ) (at : ℕ) where
  pub name_none : drop at m ≡ [] → false ≡ name_is key (drop at m)
  unfolding name_is is_text quoted
  name_none l = rw l

  module _ {b : ℕ} (l : drop at m ≡ b ∷ drop (at + 1) m) where
    pub name_unquoted : (b ≡ 34 → ⊥) → false ≡ name_is key (drop at m)
    unfolding name_is is_text quoted
    name_unquoted q = rw (l, ne_eqb b 34 q)

    module _ (q : b ≡ 34) {r : Bool} (h : (t u : List ℕ) → string 1024 between (slice_range m (at + 1) (length m)) ≡ got t u → r ≡ equal t key) where
      told_by : (t u : List ℕ) → string 1024 between (drop (at + 1) m) ≡ got t u → r ≡ equal t key
      told_by t u e = h t u (ap (string 1024 between) (between_to_end m (at + 1) (length m) (omega arith)) ∙ e)

      behind : name_is key (drop at m) ≡ is_text (string 1024 between (drop (at + 1) m)) key
      unfolding name_is quoted
      behind = rw (l, q)

      pub name_other : r ≡ false → r ≡ name_is key (drop at m)
      unfolding is_text
      name_other e = e ∙ go (string 1024 between (drop (at + 1) m)) refl ∙ sym behind
        where
          go : (x : Read (List ℕ)) → string 1024 between (drop (at + 1) m) ≡ x → false ≡ is_text x key
          go (got t u) z = sym e ∙ told_by t u z
          go (fault f) z = refl

      pub name_read : r ≡ true → (x : Result ℕ code.Fault) → Reads m (string 1024 between (drop (at + 1) m)) x
          → {o : Bool} → o ≡ is_ok x → o ≡ name_is key (drop at m)
      unfolding is_text
      name_read e (Ok i) g o = let z = was_end g in o ∙ sym e ∙ told_by z.0 (drop i m) z.1 ∙ sym (behind ∙ ap (λ x. is_text x key) z.1)
      name_read e (Err f) g o = o ∙ sym (behind ∙ ap (λ x. is_text x key) (was_fault g))

-- the text of a string
module _ (m : List ℕ) (at : ℕ) (w : List ℕ) where
  told_as : text_at (drop at m) w ≡ told_at (has_escape (drop (at + 1) m)) (quoted (drop at m)) w
  unfolding text_at
  told_as = rw (drop-drop 1 at m)

  pub told_none : {f : Fault} → quoted (drop at m) ≡ fault f → record { text = none; work = w } ≡ text_at (drop at m) w
  unfolding told_at
  told_none {f} q = sym (told_as ∙ rw q (go (has_escape (drop (at + 1) m))))
    where
      go : (e : Bool) → told_at e (fault f) w ≡ record { text = none; work = w }
      go true = refl
      go false = refl

  module _ {t r : List ℕ} (q : quoted (drop at m) ≡ got t r) where
    pub told_plain : {u : List ℕ} → u ≡ t → has_escape (drop (at + 1) m) ≡ false
        → record { text = some u; work = w } ≡ text_at (drop at m) w
    unfolding told_at
    told_plain d e = sym (told_as ∙ rw (e, q, d))

    module _ (e : has_escape (drop (at + 1) m) ≡ true) where
      pub told_short : length w < 1024 → record { text = none; work = w } ≡ text_at (drop at m) w
      unfolding told_at
      told_short l = sym (told_as ∙ rw (e, q) (rw (lt-leb 1024 (length w) l)))

      pub told_work : (w' : List ℕ) (n : ℕ) → 1024 ≤ length w → length w' ≡ length w → n ≤ 1024 → take n w' ≡ t
          → drop n w' ≡ drop n w → record { text = some (take n w'); work = w' } ≡ text_at (drop at m) w
      unfolding told_at overwrite
      told_work w' n l c b d k =
          let a : length t ≡ n = ap length (sym d) ∙ length-take-le n w' (omega arith) in
          let f : take (length w - 0) t ≡ t = take_all (length w - 0) t (omega arith) in
          let z : w' ≡ t ++ drop n w = sym (take-append-drop n w') ∙ rw (d, k) in
          let y : 0 + length t ≡ n = omega arith in
          sym (told_as ∙ rw (e, q) (rw (le-leb 1024 (length w) l, f, y, d) (ap (λ x. record { text = some t; work = x }) (sym z))))

-- what a caller has of a string that was read
pub text_read : (m w w' : List ℕ) (at : ℕ) (r : Answer TextAt) {t u s : List ℕ} → 1024 ≤ length w
    → told m w' r ≡ text_at (drop at m) w → u ≡ or_empty (text_of m w' r) → quoted (drop at m) ≡ got t s → u ≡ t
text_read m w w' at r {t} {u} {s} l e f q = f ∙ ap or_empty (ap (λ x. x.text) e ∙ text_told (drop at m) w t s l q)
