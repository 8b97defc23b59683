-- HOW MANY DIRECTORIES A CLIMB PASSES: one more than stand above the path.
use Rattle.std.specs.Prelude.{◌≡◌, refl, ℕ, zero, suc, List, length}
use Rattle.std.proofs.Common.{ap}
use Rattle.definition.specs.Path.{parent, depth, climb, dirs}

length_climb : (n : ℕ) (p : List ℕ) → length (climb n p) ≡ suc n
unfolding climb
length_climb zero p = refl
length_climb (suc n) p = ap suc (length_climb n (parent p))

pub length_dirs : (p : List ℕ) → length (dirs p) ≡ suc (depth p)
unfolding dirs
length_dirs p = length_climb (depth p) p
