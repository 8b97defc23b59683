-- Locality: a reader that succeeds reads a text off the front, and reads it again in front of any other rest that may follow.
use Rattle.std.specs.Prelude.{◌≡◌, refl, ℕ, Bool, true, false, List, [], ◌∷◌, ◌++◌}
use Rattle.std.proofs.Common.{sym, ◌∙◌, ap, arith, append_assoc}
use Rattle.definition.specs.Text.{skip_while}
use Rattle.definition.specs.Json.{Read, got, Fault, fault, and_then, is_space, skip_space}

-- what was read: the text, and that it is read alike in front of each t that Q allows
pub record Taken {A : Type 0} (f : List ℕ → Read A) (Q : List ℕ → Type 0) (s : List ℕ) (a : A) (r : List ℕ) : Type 0 where
  pub front : List ℕ
  pub cut : s ≡ front ++ r
  pub again : (t : List ℕ) → Q t → f (front ++ t) ≡ got a t

abbrev pub Local : {A : Type 0} → (List ℕ → Read A) → (List ℕ → Type 0) → Type 0
Local {A} f Q = (s : List ℕ) (a : A) (r : List ℕ) → f s ≡ got a r → Taken f Q s a r

-- any rest may follow
abbrev pub Any : List ℕ → Type 0
Any t = Unit {0}

pub no_got : {A B : Type 0} {n : Fault} {a : A} {r : List ℕ} → ◌≡◌ {A = Read A} (fault n) (got a r) → B
no_got {n = n} {a = a} {r = r} e = let z : ◌≡◌ {A = ℕ} 0 1 = cc in absurd (omega arith)

-- a reader that succeeds went through both parts
pub record Both {A B : Type 0} (m : Read A) (k : A → List ℕ → Read B) (b : B) (r : List ℕ) : Type 0 where
  pub value : A
  pub rest : List ℕ
  pub first : m ≡ got value rest
  pub second : k value rest ≡ got b r

pub and_then_both : {A B : Type 0} (m : Read A) (k : A → List ℕ → Read B) (b : B) (r : List ℕ) → and_then m k ≡ got b r → Both m k b r
and_then_both (got a s) k b r e = record { value = a; rest = s; first = refl; second = e }
and_then_both (fault n) k b r e = no_got e

pub map_local : {A B : Type 0} (f : List ℕ → Read A) (h : A → B) (Q : List ℕ → Type 0) → Local f Q → Local (λ s. and_then (f s) (λ a r. got (h a) r)) Q
map_local f h Q l s b r e =
    let d = and_then_both (f s) (λ a t. got (h a) t) b r e in
    let w = l s d.value d.rest d.first in
    let p : h d.value ≡ b = cc d.second in
    let q : d.rest ≡ r = cc d.second in
    record { front = w.front; cut = w.cut ∙ ap (λ t. w.front ++ t) q; again = λ t x. rw (w.again t x) (ap (λ z. got z t) p) }

-- one reader after another; what follows the first is what the second takes
pub seq_local : {A B : Type 0} (f : List ℕ → Read A) (g : A → List ℕ → Read B) (Q R : List ℕ → Type 0)
    → Local f Q → ((a : A) → Local (g a) R) → ((a : A) (s : List ℕ) (b : B) (r : List ℕ) → g a s ≡ got b r → Q s)
    → Local (λ s. and_then (f s) (λ a r. g a r)) R
seq_local f g Q R l m takes s b r e =
    let d = and_then_both (f s) (λ a t. g a t) b r e in
    let w = l s d.value d.rest d.first in
    let v = m d.value d.rest b r d.second in
    record {
      front = w.front ++ v.front;
      cut = w.cut ∙ ap (λ t. w.front ++ t) v.cut ∙ sym (append_assoc w.front v.front r);
      again = λ t x.
          rw (append_assoc w.front v.front t, w.again (v.front ++ t) (takes d.value (v.front ++ t) b t (v.again t x))) (v.again t x);
    }

-- white space in front
pub skip_local : {A : Type 0} (f : List ℕ → Read A) (Q : List ℕ → Type 0) (n : Fault) → f [] ≡ fault n → Q [] → Local f Q → Local (λ s. f (skip_space s)) Q
unfolding skip_while
skip_local f Q n z q l [] a r e = no_got (sym z ∙ e)
skip_local {A} f Q n z q l (b ∷ s) a r e = go (is_space b) refl (skip_local f Q n z q l s a r)
  where
    front_of : (w : Taken f Q (b ∷ s) a r) → is_space b ≡ false → (u : List ℕ) → w.front ≡ u → Taken (λ s. f (skip_space s)) Q (b ∷ s) a r
    front_of w h [] y = no_got (sym z ∙ (rw y at (w.again [] q)))
    front_of w h (c ∷ u) y =
        let x : b ≡ c = cc w.cut in
        let k : is_space c ≡ false = rw x at h in
        record { front = c ∷ u; cut = rw y at w.cut; again = λ t p. rw k (rw y at (w.again t p)) }

    go : (t : Bool) → is_space b ≡ t → (f (skip_space s) ≡ got a r → Taken (λ s. f (skip_space s)) Q s a r) → Taken (λ s. f (skip_space s)) Q (b ∷ s) a r
    go true h ih =
        let w : Taken (λ s. f (skip_space s)) Q s a r = ih (rw h at e) in
        record { front = b ∷ w.front; cut = ap (λ x. b ∷ x) w.cut; again = λ t p. rw h (w.again t p) }
    go false h ih = let w : Taken f Q (b ∷ s) a r = l (b ∷ s) a r (rw h at e) in front_of w h w.front refl
