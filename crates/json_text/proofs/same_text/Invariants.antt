-- What is left of the text against what is left of the key.
use Rattle.std.proofs.Common.{◌≡◌, ℕ, List}
use Rattle.definition.specs.Json.{between, string, got}
use Rattle.json_text.proofs.Strings.{Verbatim}
use Rattle.json_text.proofs.same_text.Given as goal

abbrev pub invariant-loop-k : goal.invariant-loop-k
invariant-loop-k l = (t u : List ℕ) → string 1024 between l.s ≡ got t u → Verbatim l.s l.key l.k l.k t u
