-- What is left to read, in the state that was reached, decides as the whole does.
use Rattle.std.proofs.Common.{◌≡◌, drop}
use Rattle.definition.specs.Text.{is_utf8_from, is_utf8}
use Rattle.utf8.specs.Meaning.{due_of}
use Rattle.utf8.proofs.is_utf8.Given as goal

abbrev pub invariant-loop-b : goal.invariant-loop-b
invariant-loop-b l = is_utf8_from (drop l.b-index l.s) (due_of l.owed) ≡ is_utf8 l.s
