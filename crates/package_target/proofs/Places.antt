-- What stands at a place, taken apart.
use mathlib.Core.Path.{◌≡◌, refl, sym, ◌∙◌, ap}
use mathlib.Core.Bool.{Bool, true, false, ◌&&◌}
use mathlib.Core.List.{List, [], ◌∷◌}
use mathlib.Core.Option.{some}
use Prim.Native.Nat.{ℕ, zero, suc, ◌≤◌}
use native.Mathlib.Omega.{arith}
use lib.ListN.{length, drop, drop_of_length-le}
use lib.Dec.{eqb}
use borrow.Author.Tests.{eq-eqb, ne_eqb, eqb-true, eqb-false}
use Rattle.definition.specs.Text.{equal}
use Rattle.definition.specs.Json.{Json, scalar, str, arr, obj, Elements, Members, got, value, value_by, quoted, settled, settled_members}
use Rattle.definition.specs.JsonAt as json
use Rattle.definition.specs.JsonAt.{a_scalar, a_string, an_array, an_object, kind_at, first_member, first_element, next_element, member_value, next_member, is_text, name_is, text_at}
use Rattle.laws.specs.JsonAtLaws as at
use Rattle.laws.specs.JsonAtLaws.{text_shape, array_shape, object_shape, scalar_shape}
use Rattle.laws.specs.JsonSoundLaws.{quoted_sound}
use Rattle.std.specs.Prelude.{Option, Some, None, unwrap_or}
use Rattle.package_json.specs.Values as values
use Rattle.package_json.proofs.Values.{text_written, array_written, object_written}
use Rattle.package_json.specs.Cursors as cursors
use Rattle.package_json.specs.Cursors.{placed}
use Rattle.package_json.specs.declared.Kind.{Kind}
use Rattle.package_json.specs.declared.Kind.TheVariants.{Scalar, String, Array, Object}
use Rattle.targets.specs.Contexts.{read_text, string_at}
use Rattle.package_target.specs.Places.{Written, Stands, kind_of}

pub none_of : {P : Type 0} → ⊥ → P
none_of z = absurd z

-- a value by its place in the manifest
pub stands_at : {m : List ℕ} {d i : ℕ} {j : Json} → values.Stands d (drop i m) j → Stands m d i j
stands_at h = record { written = h.written; there = record { here = h.there }; means = h.means }

-- an object as written, of which ms are the members by what they mean
pub record ObjectAt (m : List ℕ) (d i : ℕ) (ms : Members) : Type 0 where
  pub members : Members
  pub there : Written m d i (obj members)
  pub means : settled_members members ≡ ms

pub object_at : {m : List ℕ} {d i : ℕ} {ms : Members} → Stands m d i (obj ms) → ObjectAt m d i ms
object_at {ms = ms} h =
    let w = object_written h.written ms h.means in record { members = w.0; there = rw w.1.0 at h.there; means = w.1.1 }

-- a value that is written stands for what it means, and stands within the manifest
pub stands : {m : List ℕ} {d i : ℕ} {j : Json} → Written m d i j → Stands m d i (settled j)
stands {j = j} h = record { written = j; there = h; means = refl }

pub written_inside : (m : List ℕ) (d i : ℕ) (j : Json) → Written m d i j → length m ≤ i → ⊥
unfolding value value_by
written_inside m d i j h l = go d (rw (drop_of_length-le m l) at h.here.reads)
  where
    go : (d : ℕ) → value d [] ≡ got j h.here.rest → ⊥
    go zero e = let z : ◌≡◌ {A = ℕ} 0 1 = cc in omega arith
    go (suc d) e = let z : ◌≡◌ {A = ℕ} 0 1 = cc in omega arith

-- brackets need depth
module _ (m : List ℕ) (d i : ℕ) where
  depth_of : (j : Json) (r s : List ℕ) → at.Shape d j r s → d ≡ 0 → (j ≡ scalar → ⊥) → ((t : List ℕ) → j ≡ str t → ⊥)
      → ⊥
  depth_of j r s (text_shape t u e q f) z a b = b t q
  depth_of j r s (array_shape p u e q f) z a b = omega arith
  depth_of j r s (object_shape p u e q f) z a b = omega arith
  depth_of j r s (scalar_shape c u e n1 n2 n3 k q) z a b = a (sym q)

  deep : {j : Json} (h : Stands m d i j) → d ≡ 0 → (h.written ≡ scalar → ⊥) → ((t : List ℕ) → h.written ≡ str t → ⊥) → ⊥
  deep h z a b =
      let s = h.there.here in
      depth_of h.written s.rest (drop i m) (at.shape d h.written s.rest (drop i m) s.reads) z a b

  pub array_depth : (js : Elements) → Stands m d i (arr js) → d ≡ 0 → ⊥
  array_depth js h z =
      let w = array_written h.written js h.means in
      let e = w.1.0 in
      let a : h.written ≡ scalar → ⊥ = λ f. let o : ◌≡◌ {A = ℕ} 0 1 = cc in omega arith in
      let b : (t : List ℕ) → h.written ≡ str t → ⊥ = λ t f. let o : ◌≡◌ {A = ℕ} 0 1 = cc in omega arith in
      deep h z a b

  pub object_depth : (ms : Members) → Stands m d i (obj ms) → d ≡ 0 → ⊥
  object_depth ms h z =
      let w = object_written h.written ms h.means in
      let e = w.1.0 in
      let a : h.written ≡ scalar → ⊥ = λ f. let o : ◌≡◌ {A = ℕ} 0 1 = cc in omega arith in
      let b : (t : List ℕ) → h.written ≡ str t → ⊥ = λ t f. let o : ◌≡◌ {A = ℕ} 0 1 = cc in omega arith in
      deep h z a b

-- the kind of a value
abbrev pub own_kind : json.Kind → Kind
own_kind a_scalar = Scalar
own_kind a_string = String
own_kind an_array = Array
own_kind an_object = Object

own_is : (j : Json) → own_kind (at.kind_of j) ≡ kind_of j
unfolding at.kind_of
own_is scalar = refl
own_is (str s) = refl
own_is (arr js) = refl
own_is (obj ms) = refl

kind_settled : (w : Json) → kind_of w ≡ kind_of (settled w)
unfolding settled
kind_settled scalar = refl
kind_settled (str s) = refl
kind_settled (arr js) = refl
kind_settled (obj ms) = refl

-- the kind that the code finds, or else any
kind_found : (r : Option Kind) (x : json.Kind) → cursors.kind_of r ≡ some x → unwrap_or r Scalar ≡ own_kind x
kind_found (Some Scalar) x e = let z : a_scalar ≡ x = cc in ap own_kind z
kind_found (Some String) x e = let z : a_string ≡ x = cc in ap own_kind z
kind_found (Some Array) x e = let z : an_array ≡ x = cc in ap own_kind z
kind_found (Some Object) x e = let z : an_object ≡ x = cc in ap own_kind z
kind_found None x e = none_of (let z : ◌≡◌ {A = ℕ} 0 1 = cc in omega arith)

pub kind_is : (m : List ℕ) (i : ℕ) (r : Option Kind) → cursors.kind_of r ≡ kind_at (drop i m) → (d : ℕ) (j : Json)
    → Stands m d i j → unwrap_or r Scalar ≡ kind_of j
kind_is m i r e d j h =
    kind_found r _ (e ∙ at.kind_here h.there.here) ∙ own_is h.written ∙ kind_settled h.written ∙ ap kind_of h.means

-- the text of a string
module _ {m : List ℕ} {d i : ℕ} {s : List ℕ} (h : Stands m d i (str s)) where
  text_there : at.Stands d (drop i m) (str s)
  text_there = rw (text_written h.written s h.means) at h.there.here

  pub text_short : length s ≤ 1024
  text_short = (quoted_sound (drop i m) s text_there.rest (at.text_here text_there)).fits

  pub string_is : string_at m i ≡ s
  string_is = ap read_text (at.text_here text_there)

-- a name that is compared with a text
pub name_equal : (m key : List ℕ) (i : ℕ) (b : Bool) → b ≡ name_is key (drop i m) → (t s : List ℕ)
    → quoted (drop i m) ≡ got t s → b ≡ equal t key
unfolding name_is is_text
name_equal m key i b e t s h = e ∙ rw h

pub equal_sym : (a b : List ℕ) → equal a b ≡ equal b a
unfolding equal
equal_sym [] [] = refl
equal_sym [] (y ∷ b) = refl
equal_sym (x ∷ a) [] = refl
equal_sym (x ∷ a) (y ∷ b) = go (eqb x y) refl (equal_sym a b)
  where
    go : (p : Bool) → eqb x y ≡ p → equal a b ≡ equal b a → eqb x y && equal a b ≡ eqb y x && equal b a
    go true e g = rw (e, eq-eqb y x (sym (eqb-true x y e))) g
    go false e g = rw (e, ne_eqb y x (λ q. eqb-false x y e (sym q)))
