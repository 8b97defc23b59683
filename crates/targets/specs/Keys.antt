-- Keys: their rank among keys, the order of two of them, and the part of a match key that a pattern leaves over.
use Prim.Native.Nat as native
use Prim.Native.Nat.{ℕ}
use Rattle.std.specs.Prelude.{List, length, drop, take, Option, Some, None}
use Rattle.std.specs.declared.cmp.Ordering.{Ordering}
use Rattle.std.specs.declared.cmp.Ordering.TheVariants.{Less, Equal, Greater}
use Rattle.std.proofs.Math.Option as definition
use Rattle.std.proofs.Math.Option.{none, some}
use Rattle.definition.specs.Text.{star, contains}
use Rattle.definition.specs.Exports.{base_length}
use Rattle.targets.specs.declared.Rank.{Rank}
use Rattle.targets.specs.declared.Span.{Span}

-- what `PATTERN_KEY_COMPARE` asks of a key
abbrev pub rank_of : List ℕ → Rank
rank_of k = record { base = base_length k; starred = contains star k; len = length k }

abbrev pub order_of : Ordering → native.Ordering
order_of Less = native.Ordering.lt
order_of Equal = native.Ordering.eq
order_of Greater = native.Ordering.gt

-- the part of a match key
abbrev pub match_of : List ℕ → Option Span → definition.Option (List ℕ)
match_of mk (Some part) = some (take part.len (drop part.start mk))
match_of mk None = none
