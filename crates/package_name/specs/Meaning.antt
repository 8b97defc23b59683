-- What the answers of the functions mean.
use Rattle.std.specs.Prelude.{ℕ, List, drop, Option, Some, None}
use Rattle.std.proofs.Math.Option.{Option as Tail, none, some}

-- the tail of a specifier
abbrev pub tail_of : List ℕ → Option ℕ → Tail (List ℕ)
tail_of s (Some i) = some (drop i s)
tail_of s None = none
