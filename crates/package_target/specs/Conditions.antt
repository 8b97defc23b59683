-- Which condition a name is, and where the last value of a name stands.
use Rattle.std.specs.Prelude.{◌≡◌, List, [], ◌∷◌, ℕ, suc, ◌≤◌, ◌<◌, ltb, length, map, get_or, set, Option, Some, None, if◌then◌else◌}
use Rattle.std.specs.Bool.{then_some}
use Rattle.std.proofs.Math.Option as definition
use Rattle.std.proofs.Math.Option.{none, some}
use Rattle.definition.specs.Text.{Text, text, equal}
use Rattle.definition.specs.Json.{Json, Members}
use Rattle.laws.specs.SettledLaws.{last_from}
use Rattle.package_target.specs.Places.{Written}

-- the place of a text among others, of which the first has the place n; 256 where it is none of them
unfoldable pub place_in : ℕ → List Text → Text → ℕ
place_in n [] k = 256
place_in n (c ∷ cs) k = let rest = place_in (suc n) cs k in if equal c k then n else rest

-- 0 for "default", 1 + i for the i-th of the conditions, 256 for any other name
unfoldable pub condition_of : List Text → Text → ℕ
condition_of cs k = if equal k (text "default") then 0 else place_in 1 cs k

-- the condition of that number, if it is one's
abbrev pub IsCondition : ℕ → Option ℕ → Type 0
IsCondition c (Some k) = k ≡ c
IsCondition c None = 256 ≤ c

-- the places of a table, in which one past the end is none
abbrev pub place_of : ℕ → ℕ → Option ℕ
place_of end i = then_some (ltb i end) i

abbrev pub places : ℕ → List ℕ → List (Option ℕ)
places end values = map (place_of end) values

-- a value stands at a place, or there is neither
abbrev pub StandsIf : List ℕ → ℕ → Option ℕ → definition.Option Json → Type 0
StandsIf m d None none = Unit {0}
StandsIf m d None (some j) = ⊥
StandsIf m d (Some i) none = ⊥
StandsIf m d (Some i) (some j) = Written m d i j

-- of each condition, the place of the last value that a member of its name has, and what stood before where none has
pub record LastValues (m : List ℕ) (d : ℕ) (cs : List Text) (before values : List (Option ℕ)) (ms : Members)
    : Type 0 where
  pub size : length values ≡ length before
  pub last : (k : Text) (o : definition.Option Json) → condition_of cs k < 256
      → StandsIf m d (get_or before (condition_of cs k) None) o
      → StandsIf m d (get_or values (condition_of cs k) None) (last_from k o ms)

-- the turn of the condition c: its place is taken from the values, and none is left for it
pub record Turn (c : ℕ) (values left : List (Option ℕ)) (place : Option ℕ) : Type 0 where
  pub taken : place ≡ get_or values c None
  pub others : left ≡ set values c None
