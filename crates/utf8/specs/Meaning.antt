-- What the types of `utf8` mean.
use Rattle.std.specs.Prelude.{Option, Some, None}
use Rattle.definition.specs.Text.{Due, due, bad}
use Rattle.utf8.specs.declared.Owed.{Owed}

abbrev pub due_of : Owed → Due
due_of o = due o.more o.low o.high

abbrev pub meant : Option Owed → Due
meant (Some o) = due_of o
meant None = bad
