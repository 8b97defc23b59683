-- With enough work memory a function does what the definition's routine does. Assumes nothing.
use mathlib.Core.Path.{◌≡◌}
use mathlib.Core.List.{[]}
use mathlib.Core.Option.{Option, none, some}
use Prim.Native.Nat.{ℕ, ◌≤◌, ◌<◌}
use native.Mathlib.Omega.{arith}
use borrow.Author.Tests.{le-leb, lt-leb}
use Rattle.definition.specs.Ask.{Listing, Step, stop, Ask}
use Rattle.definition.specs.Manifest.{End}
use Rattle.consults.specs.declared.Ending.{Ending}
use Rattle.consults.specs.Tape.{Tape, Done}
use Rattle.refusal.specs.declared.Refusal.{Refusal}
use Rattle.refusal.specs.declared.Refusal.TheVariants.{WorkTooShort}
use Rattle.consults.specs.declared.Case.TheVariants.{Refused}
use Rattle.consults.specs.Meaning.{ended_as, or_refused}
use Rattle.consults.proofs.Ways.{wanted, had}
use Rattle.std.specs.Array.{IsFirstChunk}
use Rattle.std.specs.Prelude.{List, length, MatchOption}
use Rattle.std.specs.Prelude as lent
use Rattle.std.specs.declared.ops.ControlFlow.{ControlFlow}
use Rattle.std.specs.declared.ops.ControlFlow.TheVariants.{Continue, Break}
use Rattle.directory.specs.Refusals.{DoneUnless, done, refused, room_in, or_longer}

module _ {M A : Type 0} {L : Listing M} {t : Ask End M A} {s : Tape} where
  -- for a caller
  pub was_done : {n : Option Refusal} {s' : Tape} {r : Step Ending A} → n ≡ none → DoneUnless L t s n s' r
      → Done L t s s' r
  was_done e (done d) = d
  was_done e (refused n) = absurd (let z : ◌≡◌ {A = ℕ} 0 1 = cc in omega arith)

  -- for the function itself
  pub is_done : (n : Option Refusal) {s' : Tape} {r : Step Ending A} → n ≡ none → Done L t s s' r
      → DoneUnless L t s n s' r
  is_done n e d = rw e (done d)

  pub is_refused_lem : (n : Option Refusal) (k : Refusal) → n ≡ some k
      → DoneUnless L t s n s (stop (ended_as (Refused k) [] [] []))
  is_refused_lem n k e = rw e (refused k)

-- enough work memory, or not
pub enough : (w : ℕ) → 1024 ≤ w → room_in w ≡ none
unfolding room_in
enough w h = rw (le-leb 1024 w h)

pub too_little : (w : ℕ) → w < 1024 → room_in w ≡ some WorkTooShort
unfolding room_in
too_little w h = rw (lt-leb 1024 w h)

-- and a text that is not too long
module _ (k : Refusal) (most w n : ℕ) where
  pub fits : 1024 ≤ w → n ≤ most → or_longer k most n (room_in w) ≡ none
  unfolding or_longer
  fits h i = rw (enough w h, le-leb n most i)

  pub no_room : w < 1024 → or_longer k most n (room_in w) ≡ some WorkTooShort
  unfolding or_longer
  no_room h = rw (too_little w h)

  pub too_long : 1024 ≤ w → most < n → or_longer k most n (room_in w) ≡ some k
  unfolding or_longer
  too_long h i = rw (enough w h, lt-leb n most i)

-- the work memory as an array, or the refusal of less
module _ {B : Type 0} (now : B → List ℕ) (w : List ℕ) (o : lent.Option B) {r : ControlFlow Ending B}
    (m : MatchOption o (length w < 1024) (λ b. IsFirstChunk w (now b) 1024)) (e : r ≡ or_refused o WorkTooShort) where
  pub is_lent : {b : B} → r ≡ Continue b → room_in (length w) ≡ none
  is_lent h = let z = had _ _ WorkTooShort o m e h in enough _ z.enough

  pub not_lent : {M A : Type 0} {L : Listing M} {t : Ask End M A} {s : Tape} {x : Ending} → r ≡ Break x
      → DoneUnless L t s (room_in (length w)) s (stop x)
  not_lent h =
      let (short, is) = wanted _ _ WorkTooShort o m e h in rw is (is_refused_lem _ WorkTooShort (too_little _ short))

  -- and a text that is not too long
  module _ (k : Refusal) (most n : ℕ) where
    pub lent_fits : {b : B} → r ≡ Continue b → n ≤ most → or_longer k most n (room_in (length w)) ≡ none
    lent_fits h i = let z = had _ _ WorkTooShort o m e h in fits k most _ n z.enough i

    pub lent_long : {b : B} → r ≡ Continue b → most < n → or_longer k most n (room_in (length w)) ≡ some k
    lent_long h i = let z = had _ _ WorkTooShort o m e h in too_long k most _ n z.enough i

    pub not_lent_either : {M A : Type 0} {L : Listing M} {t : Ask End M A} {s : Tape} {x : Ending} → r ≡ Break x
        → DoneUnless L t s (or_longer k most n (room_in (length w))) s (stop x)
    not_lent_either h =
        let (short, is) = wanted _ _ WorkTooShort o m e h in rw is
        (is_refused_lem _ WorkTooShort (no_room k most _ n short))
