-- Zeros from a place on, for a buffer of any numbers.
use Rattle.std.specs.Prelude.{◌≡◌, ℕ, ◌-◌, List, ◌++◌, length, take, replicate}
use Rattle.std.proofs.Common.{refl}
use Rattle.definition.specs.Text.{zero_from}

pub zero_from_is : (at : ℕ) (d : List ℕ) → zero_from at d ≡ take at d ++ replicate (length d - at) 0
unfolding zero_from
zero_from_is at d = refl
