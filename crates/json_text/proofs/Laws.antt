-- One reader after another, by what a scan said of the first.
use mathlib.Core.Path.{◌≡◌, refl, ◌∙◌}
use mathlib.Core.List.{List}
use Prim.Native.Nat.{ℕ}
use native.Mathlib.Omega.{arith}
use lib.ListN.{drop}
use Rattle.std.specs.Prelude.{Option, Some, None, Result, Ok, Err}
use Rattle.std.specs.Result.{result_ok}
use Rattle.definition.specs.Json as json
use Rattle.definition.specs.Json.{Read, got, fault, and_then}
use Rattle.json_text.specs.Scanned.{fault_of, left, scanned, Reads}
use Rattle.json_text.specs.declared.Fault.{Fault}

pub faulty : {A : Type 0} {m : List ℕ} {f : Fault} → Reads {A = A} m (fault (fault_of f)) (Err f)
faulty = record { is = refl }

pub ended : {A : Type 0} {m : List ℕ} {a : A} {i : ℕ} → Reads {A = A} m (got a (drop i m)) (Ok i)
ended = record { is = refl }

module _ {A B : Type 0} {m : List ℕ} {x : Read A} (k : A → List ℕ → Read B) where
  pub then_fault : {f : Fault} → Reads m x (Err f) → Reads m (and_then x k) (Err f)
  then_fault {f} e = record { is = go x e.is }
    where
      go : (x : Read A) → left x ≡ fault (fault_of f) → left (and_then x k) ≡ fault (fault_of f)
      go (got a s) h = cc
      go (fault g) h = h

  pub then_end : {i : ℕ} {t : Result ℕ Fault} → Reads m x (Ok i) → ((a : A) → Reads m (k a (drop i m)) t)
      → Reads m (and_then x k) t
  then_end {i} {t} e g = record { is = go x e.is }
    where
      go : (x : Read A) → left x ≡ got tt (drop i m) → left (and_then x k) ≡ scanned m t
      go (got a s) h = let z : s ≡ drop i m = cc in rw z (g a).is
      go (fault n) h = cc

-- what a scan found, as the reader's own result
module _ {A : Type 0} {m : List ℕ} {x : Read A} where
  pub was_end : {i : ℕ} → Reads m x (Ok i) → (a : A) × (x ≡ got a (drop i m))
  was_end {i} e = go x e.is
    where
      go : (x : Read A) → left x ≡ got tt (drop i m) → (a : A) × (x ≡ got a (drop i m))
      go (got a s) h = (a, cc)
      go (fault n) h = absurd (let z : ◌≡◌ {A = ℕ} 0 1 = cc in omega arith)

  pub was_fault : {f : Fault} → Reads m x (Err f) → x ≡ fault (fault_of f)
  was_fault {f} e = go x e.is
    where
      go : (x : Read A) → left x ≡ fault (fault_of f) → x ≡ fault (fault_of f)
      go (got a s) h = cc
      go (fault n) h = cc

-- the same where only the end was asked for
module _ {A : Type 0} {m : List ℕ} {x : Read A} where
  pub read_some : (r : Result ℕ Fault) {o : Option ℕ} {i : ℕ} → Reads m x r → o ≡ result_ok r → o ≡ Some i
      → (a : A) × (x ≡ got a (drop i m))
  read_some (Ok j) {o} {i} e d q = let z : j ≡ i = cc in was_end (rw z at e)
  read_some (Err f) e d q = absurd (let z : ◌≡◌ {A = ℕ} 0 1 = cc in omega arith)

  pub read_none : (r : Result ℕ Fault) {o : Option ℕ} → Reads m x r → o ≡ result_ok r → o ≡ None
      → (f : json.Fault) × (x ≡ fault f)
  read_none (Ok j) e d q = absurd (let z : ◌≡◌ {A = ℕ} 0 1 = cc in omega arith)
  read_none (Err f) e d q = (fault_of f, was_fault e)

pub left_map : {A B : Type 0} (f : A → B) (x : Read A) → left (and_then x (λ a t. got (f a) t)) ≡ left x
left_map f (got a s) = refl
left_map f (fault n) = refl

pub reads_map : {A B : Type 0} {m : List ℕ} {x : Read A} {r : Result ℕ Fault} (f : A → B) → Reads m x r
    → Reads m (and_then x (λ a t. got (f a) t)) r
reads_map {A} {B} {m} {x} {r} f e = record { is = left_map f x ∙ e.is }
