-- Parts of a string, and a query or a fragment put in place of the old one.
use mathlib.Core.Path.{◌≡◌, refl, sym, ◌∙◌, ap}
use mathlib.Core.List.{List, [], ◌∷◌}
use Prim.Native.Nat.{ℕ, ◌≤◌}
use native.Mathlib.Omega.{arith}
use lib.ListN.{length, drop, take}
use Rattle.definition.specs.Json.{Read, got, fault, quoted}
use Rattle.definition.specs.JsonAt.{text_at, told_at}
use Rattle.laws.specs.JsonAtLaws.{text_told}
use Rattle.laws.specs.JsonSoundLaws.{quoted_sound}
use Rattle.definition.specs.Exports.{or_old}
use Rattle.std.specs.Prelude.{Option}
use Rattle.json_text.specs.declared.TextAt.{TextAt}
use Rattle.json_text.specs.Texts.{text_of, told, or_empty}
use Rattle.targets.specs.declared.Part.{Part}
use Rattle.targets.specs.Contexts.{read_text, string_at, part_text, Inside}

module _ (m : List ℕ) (p o : Part) (i : Inside m p) where
  pub left_old : p.span.len ≡ 0 → part_text m o ≡ or_old (part_text m p) (part_text m o)
  left_old h = go (part_text m p) (i ∙ h)
    where
      go : (t : List ℕ) → length t ≡ 0 → part_text m o ≡ or_old t (part_text m o)
      go [] h = unfold or_old in refl
      go (b ∷ t) h = let z : ⊥ = omega arith in absurd z

  pub replaced : (p.span.len ≡ 0 → ⊥) → part_text m p ≡ or_old (part_text m p) (part_text m o)
  replaced n = go (part_text m p) (λ h. n (sym i ∙ h))
    where
      go : (t : List ℕ) → (length t ≡ 0 → ⊥) → t ≡ or_old t (part_text m o)
      go [] h = absurd (h refl)
      go (b ∷ t) h = unfold or_old in refl

-- the text of a string, wherever one stands or none
pub string_short : (m : List ℕ) (i : ℕ) → length (string_at m i) ≤ 1024
string_short m i = by (quoted (drop i m)) refl
  where
    by : (r : Read (List ℕ)) → quoted (drop i m) ≡ r → length (read_text r) ≤ 1024
    by (got t r) e = (quoted_sound (drop i m) t r e).fits
    by (fault f) e = omega arith

pub text_read : (s w : List ℕ) → 1024 ≤ length w → or_empty (text_at s w).text ≡ read_text (quoted s)
unfolding text_at told_at
text_read s w l = by (quoted s) refl
  where
    by : (r : Read (List ℕ)) → quoted s ≡ r → or_empty (text_at s w).text ≡ read_text r
    by (got t r) e = ap or_empty (text_told s w t r l e)
    by (fault f) e = rw e

-- the text of a part as the code reads it, and where it puts it
module _ (m : List ℕ) (p : Part) where
  pub part_read : (d d' : List ℕ) (t : Option TextAt) (x y : List ℕ) → 1024 ≤ length d
      → told m d' t ≡ text_at (drop p.at m) d → x ≡ or_empty (text_of m d' t)
      → y ≡ take p.span.len (drop p.span.start x) → y ≡ part_text m p
  part_read d d' t x y l e f g = g
      ∙ ap (λ z. take p.span.len (drop p.span.start z)) (f ∙ ap (λ z. or_empty z.text) e ∙ text_read (drop p.at m) d l)

  pub no_part : p.span.len ≡ 0 → [] ≡ part_text m p
  no_part h = rw h refl
