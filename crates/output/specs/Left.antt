-- The same over a tape, which holds the three output buffers and the counts of the list.
use Rattle.std.specs.Prelude.{List, ℕ, length, replicate}
use Rattle.definition.specs.Ask.{Consult}
use Rattle.definition.specs.Manifest.{End}
use Rattle.definition.specs.Called.{Rooms, Left}
use Rattle.consults.specs.declared.Ending.{Ending}
use Rattle.consults.specs.declared.Tape.{Tape}
use Rattle.answer.specs.declared.Reply.{Reply}
use Rattle.answer.specs.Room.{Room}
use Rattle.output.specs.Meaning.{rooms_of, left_by}
use Rattle.output.specs.Walked.{Walked}

-- beside w bytes of work memory
abbrev pub rooms_in : Tape → ℕ → Rooms
rooms_in t w = rooms_of t.result.now t.numbers.now t.text.now w

-- with w zeros in work
abbrev pub left_in : Reply → Tape → ℕ → Left
left_in a t w = left_by a t.result.now t.numbers.now t.text.now (replicate w 0)

abbrev pub RoomIn : Ending → Tape → Type 0
RoomIn x t = Room x t.mark (length t.result.now) (length t.numbers.now) (length t.text.now)

abbrev pub WalkedIn : End → List Consult → Ending → Tape → Type 0
WalkedIn e l x t = Walked e l x t.mark t.result.now t.numbers.now t.text.now
