-- A function that wants work memory does what a routine of the definition does, or refuses before it has looked at anything.
use Rattle.std.specs.Prelude.{[], ℕ, leb, if◌then◌else◌}
use Rattle.std.proofs.Math.Option.{Option, none, some}
use Rattle.definition.specs.Ask.{Listing, Step, stop, Ask}
use Rattle.definition.specs.Manifest.{End}
use Rattle.refusal.specs.declared.Refusal.{Refusal}
use Rattle.refusal.specs.declared.Refusal.TheVariants.{WorkTooShort}
use Rattle.consults.specs.declared.Case.TheVariants.{Refused}
use Rattle.consults.specs.declared.Ending.{Ending}
use Rattle.consults.specs.Tape.{Tape, Done}
use Rattle.consults.specs.Meaning.{ended_as}

-- over a listing the routine was done; or there was a refusal, and the tape is as it was
pub data DoneUnless {M A : Type 0} (L : Listing M) (t : Ask End M A) (s : Tape) : Option Refusal → Tape → Step Ending A → Type 0 where
  done : {s' : Tape} {r : Step Ending A} → Done L t s s' r → DoneUnless L t s none s' r
  refused : (q : Refusal) → DoneUnless L t s (some q) s (stop (ended_as (Refused q) [] [] []))

-- the work memory has fewer than 1,024 bytes
unfoldable pub room_in : ℕ → Option Refusal
room_in w = if leb 1024 w then none else some WorkTooShort

-- the same, or else q: a text has more than `most` bytes
unfoldable pub or_longer : (q : Refusal) (most n : ℕ) → Option Refusal → Option Refusal
or_longer q most n none = if leb n most then none else some q
or_longer q most n (some j) = some j
