-- An array or an object behind its bracket, and its entries: elements or members.
use Rattle.std.specs.Prelude.{ℕ, zero, suc, ◌==◌, Bool, List, Result, drop}
use Prim.Native.Char.{code}
use Rattle.definition.specs.Json.{Json, Read, got, fault, beyond, skip_space, starts_value, elements, members, array, object, value}
use Rattle.json_text.specs.Scanned.{left, Reads}
use Rattle.json_text.specs.declared.Fault.{Fault}
use Rattle.json_value.specs.Members.{key_of}
use Rattle.json_value.specs.declared.Bracket.{Bracket}
use Rattle.json_value.specs.declared.Bracket.TheVariants.{Square, Curly}

abbrev pub close_of : Bracket → ℕ
close_of Square = code "]"
close_of Curly = code "}"

-- an entry can begin with this byte
abbrev pub begins_of : Bracket → ℕ → Bool
begins_of Square b = starts_value b
begins_of Curly b = b == 34

-- an entry up to its value: nothing, or a name and a colon
abbrev pub start_of : Bracket → List ℕ → Read (Unit {0})
start_of Square s = got tt s
start_of Curly s = left (key_of s)

-- behind a bracket, where d more may be open
abbrev pub opened : Bracket → ℕ → List ℕ → Read Json
opened b zero s = fault beyond
opened Square (suc d) s = array (λ t. value d t) (skip_space s)
opened Curly (suc d) s = object (λ t. value d t) (skip_space s)

-- the answer r is what n entries from i on are
abbrev pub ReadsEntries : Bracket → (List ℕ → Read Json) → ℕ → List ℕ → ℕ → Result ℕ Fault → Type 0
ReadsEntries Square v n m i r = Reads m (elements v n (drop i m)) r
ReadsEntries Curly v n m i r = Reads m (members v n (drop i m)) r
