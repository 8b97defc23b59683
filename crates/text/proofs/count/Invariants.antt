-- What was counted and what the rest has are all.
use Rattle.std.proofs.Common.{◌≡◌, ◌+◌, ◌≤◌, drop}
use Rattle.definition.specs.Text.{count}
use Rattle.text.proofs.count.Given as goal

abbrev pub invariant-loop-x : goal.invariant-loop-x
invariant-loop-x l = (l.n ≤ l.x-index) × (l.n + count l.b (drop l.x-index l.s) ≡ count l.b l.s)
