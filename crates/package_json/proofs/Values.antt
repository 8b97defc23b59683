-- From what is written at a place of a manifest to what it means.
use mathlib.Core.Path.{◌≡◌, refl, subst}
use mathlib.Core.Option.{Option}
use Prim.Native.Nat.{ℕ, suc}
use native.Mathlib.Omega.{arith}
use Rattle.definition.specs.Text.{Text}
use Rattle.definition.specs.Json.{Json, scalar, str, arr, obj, Elements, Members, got, skip_space, replace_bom, parse, settled, settled_elements, settled_members}
use Rattle.definition.specs.JsonAt.{get_at, rooted, check}
use Rattle.definition.specs.Manifest.{field}
use Rattle.laws.specs.JsonAtLaws as at
use Rattle.package_json.specs.Values.{Stands, Finds, finds, finds_none}

-- what is written has the kind of the value that it means
pub text_written : (w : Json) (s : Text) → settled w ≡ str s → w ≡ str s
unfolding settled
text_written scalar s e = cc
text_written (str t) s e = e
text_written (arr js) s e = cc
text_written (obj ms) s e = cc

pub array_written : (w : Json) (js : Elements) → settled w ≡ arr js
    → (es : Elements) × ((w ≡ arr es) × (settled_elements es ≡ js))
unfolding settled
array_written scalar js e = absurd (let z : ◌≡◌ {A = ℕ} 0 1 = cc in omega arith)
array_written (str t) js e = absurd (let z : ◌≡◌ {A = ℕ} 0 1 = cc in omega arith)
array_written (arr es) js e = (es, (refl, cc))
array_written (obj ms) js e = absurd (let z : ◌≡◌ {A = ℕ} 0 1 = cc in omega arith)

pub object_written : (w : Json) (ms : Members) → settled w ≡ obj ms
    → (os : Members) × ((w ≡ obj os) × (settled_members os ≡ ms))
unfolding settled
object_written scalar ms e = absurd (let z : ◌≡◌ {A = ℕ} 0 1 = cc in omega arith)
object_written (str t) ms e = absurd (let z : ◌≡◌ {A = ℕ} 0 1 = cc in omega arith)
object_written (arr es) ms e = absurd (let z : ◌≡◌ {A = ℕ} 0 1 = cc in omega arith)
object_written (obj os) ms e = (os, (refl, cc))

pub stands : {d : ℕ} {s : Text} {j : Json} → at.Stands d s j → Stands d s (settled j)
stands {j = j} h = record { written = j; there = h; means = refl }

-- a member's value, and a manifest's root
finds_means : {d : ℕ} {o : Option Json} {c : Option Text} → at.Means d o c → Finds d o c
finds_means (at.means h) = finds (stands h)
finds_means at.means_none = finds_none

pub get_here : {d : ℕ} {s : Text} {j : Json} (k : Text) → Stands (suc d) s j → Finds d (field j k) (get_at k s)
get_here {d} {s} k h = subst (λ j. Finds d (field j k) (get_at k s)) h.means (finds_means (at.get_here k h.there))

pub root_here : (m : Text) (j : Json) (r : Text) → parse m ≡ got j r
    → (check m ≡ rooted (skip_space (replace_bom m))) × Stands 16 (skip_space (replace_bom m)) (settled j)
root_here m j r e = let h = at.root_here m j r e in (h.0, stands h.1)
