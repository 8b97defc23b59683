-- A routine and what follows it: one that came back as a ControlFlow, and a path that was built. Assumes nothing.
use mathlib.Core.Path.{◌≡◌, refl, ap, fun_ext}
use native.Mathlib.Omega.{arith}
use Rattle.std.specs.Prelude.{ℕ, Option, Some, None, MatchOption}
use Rattle.std.specs.declared.ops.ControlFlow.{ControlFlow}
use Rattle.std.specs.declared.ops.ControlFlow.TheVariants.{Continue, Break}
use Rattle.definition.specs.Ask.{Listing, Step, stop, Ask, ret, end, ask, read, ◌>>=◌}
use mathlib.Core.List.{[]}
use Rattle.definition.specs.Text.{Text}
use Rattle.definition.specs.Path.{Built, built, too_long}
use Rattle.definition.specs.Manifest.{End, path_too_long}
use Rattle.definition.specs.Walk.{Look, made}
use Rattle.refusal.specs.declared.Refusal.{Refusal}
use Rattle.refusal.specs.declared.Refusal.TheVariants.{PathTooLong}
use Rattle.consults.specs.declared.Case.TheVariants.{Refused}
use Rattle.consults.specs.Ends.{refusal_of}
use Rattle.consults.proofs.Steps.{done_refuse}
use Rattle.consults.specs.declared.Ending.{Ending}
use Rattle.consults.specs.Meaning.{step_by, ended_as, or_refused, Sees}
use Rattle.consults.specs.Tape.{Tape, Done, done_ret, done_bind, done_stop}

module _ {M A B C : Type 0} {L : Listing M} {t : Ask End M B} (k : A → B) (r : ControlFlow Ending A)
    (f : B → Ask End M C) {s s₁ : Tape} (d : Done L t s s₁ (step_by k r)) where
  -- the routine came back
  pub went_on : {a : A} {s₂ : Tape} {q : Step Ending C} → r ≡ Continue a → Done L (f (k a)) s₁ s₂ q
      → Done L (t >>= f) s s₂ q
  went_on e g = done_bind f (rw e at d) g

  -- it ended the lookup
  pub came_to_end : {x : Ending} → r ≡ Break x → Done L (t >>= f) s s₁ (stop x)
  came_to_end e = done_stop f (rw e at d)

-- one routine after two others
pub bind_bind : {E M A B C : Type 0} (m : Ask E M A) (f : A → Ask E M B) (g : B → Ask E M C)
    → (m >>= f) >>= g ≡ m >>= λ x. f x >>= g
unfolding ◌>>=◌
bind_bind (ret a) f g = refl
bind_bind (end e) f g = refl
bind_bind (ask p k) f g = ap (ask p) (fun_ext (λ s. bind_bind (k s) f g))
bind_bind (read p k) f g = ap (read p) (fun_ext (λ o. bind_bind (k o) f g))

-- a path that was built, and what follows
module _ {A : Type 0} {L : Listing Sees} {b : Built} (f : Text → Look A) where
  pub made_long : {s : Tape} → b ≡ too_long → Done L (made b >>= f) s s (stop (ended_as (Refused PathTooLong) [] [] []))
  unfolding made refusal_of
  made_long e = rw e (done_stop _ (done_refuse path_too_long _))

  pub made_fits : {p : Text} {s s' : Tape} {r : Step Ending A} → b ≡ built p → Done L (f p) s s' r
      → Done L (made b >>= f) s s' r
  unfolding made
  made_fits e d = rw e (done_bind _ done_ret d)

-- a value that was wanted: what is known where it is missing, and of one that is there
module _ {A : Type 0} (P : Type 0) (Q : A → Type 0) (q : Refusal) where
  pub wanted : (o : Option A) {r : ControlFlow Ending A} {x : Ending} → MatchOption o P Q → r ≡ or_refused o q
      → r ≡ Break x → P × (x ≡ ended_as (Refused q) [] [] [])
  wanted None m e h = (m, cc)
  wanted (Some a) m e h = absurd (let z : ◌≡◌ {A = ℕ} 0 1 = cc in omega arith)

  pub had : (o : Option A) {r : ControlFlow Ending A} {a : A} → MatchOption o P Q → r ≡ or_refused o q → r ≡ Continue a
      → Q a
  had None m e h = absurd (let z : ◌≡◌ {A = ℕ} 0 1 = cc in omega arith)
  had (Some b) {r} {a} m e h = let z : b ≡ a = cc in rw z at m
