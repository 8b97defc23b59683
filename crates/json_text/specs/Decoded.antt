-- What is decoded into a buffer.
use Rattle.std.specs.Prelude.{Bool, not, ◌&&◌, ◌==◌, nat_le, nat_lt, ◌≡◌, ℕ, ◌+◌, ◌-◌, ◌≤◌, ◌<◌, List, [], ◌∷◌, ◌++◌, ◌||◌, Result, Ok, Err, eqb, length, drop, take, if◌then◌else◌}
use Rattle.definition.specs.Json.{Read, got, fault, string, between}
use Rattle.json_text.specs.Scanned.{fault_of, left}
use Rattle.json_text.specs.declared.Decoded.{Decoded}
use Rattle.json_text.specs.declared.Fault.{Fault}
use Rattle.json_text.specs.declared.Fault.TheVariants.{Beyond}

-- an ASCII byte that stands for itself in a string
abbrev pub is_plain : ℕ → Bool
is_plain b = nat_le 32 b && nat_lt b 128 && not (b == 34) && not (b == 92)

-- the bytes from `at` to i stand for themselves in a string
pub record Begun (m : List ℕ) (at i : ℕ) : Type 0 where
  pub from : at ≤ i
  pub room : i - at ≤ 1024
  pub rest : left (string 1024 between (drop at m)) ≡ left (string (1024 - (i - at)) between (drop i m))

-- the bytes before the first quote or backslash
unfoldable pub plain : List ℕ → List ℕ
plain [] = []
plain (b ∷ s) = let rest = plain s in if eqb b 34 || eqb b 92 then [] else b ∷ rest

-- the bytes `out` stand behind the first n of the buffer, or passed the limit
pub record Stands (w w' : List ℕ) (n : ℕ) (out : List ℕ) (k : ℕ) : Type 0 where
  pub count : k ≡ n + length out
  pub room : k ≤ 1024
  pub bytes : take k w' ≡ take n w ++ out
  pub kept : drop k w' ≡ drop k w

abbrev pub Puts : List ℕ → List ℕ → ℕ → List ℕ → Result ℕ Fault → Type 0
Puts w w' n out (Ok k) = Stands w w' n out k
Puts w w' n out (Err f) = (f ≡ Beyond) × (1024 < n + length out) × (w' ≡ w)

-- a string was read: its decoded bytes are the buffer's first
abbrev pub decoded : List ℕ → List ℕ → Result Decoded Fault → Read (List ℕ)
decoded m w (Ok t) = got (take t.len w) (drop t.end m)
decoded m w (Err f) = fault (fault_of f)

-- and nothing behind them changed; a fault leaves free how far it wrote
abbrev pub Kept : List ℕ → List ℕ → Result Decoded Fault → Type 0
Kept w w' (Ok t) = (t.len ≤ 1024) × (drop t.len w' ≡ drop t.len w)
Kept w w' (Err f) = (n : ℕ) × (drop n w' ≡ drop n w)

pub record Decodes (m w w' : List ℕ) (x : Read (List ℕ)) (r : Result Decoded Fault) : Type 0 where
  pub is : x ≡ decoded m w' r
  pub kept : Kept w w' r
