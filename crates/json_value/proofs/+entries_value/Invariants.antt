-- A value's brackets leave one depth less to the values in them.
use Rattle.std.proofs.Common.{◌+◌, ◌-◌, ◌*◌, drop}
use Rattle.definition.specs.Json.{skip_space, value as value_of}
use Rattle.json_value.proofs.Loops.{Entries}
use Rattle.json_value.proofs.+entries_value.Given as goal

abbrev pub decreases-value : goal.decreases-value
decreases-value l = l.depth * 2 + 1

abbrev pub decreases-entries : goal.decreases-entries
decreases-entries l = l.depth * 2

abbrev pub invariant-entries-loop : goal.invariant-entries-loop
invariant-entries-loop l = Entries l.bracket (value_of l.inner) l.m (skip_space (drop l.at l.m)) l.i (128 - l.counter)
