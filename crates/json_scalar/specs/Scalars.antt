-- The definition's readers of a value and of what stands behind a value or a name, in the code's steps.
use Rattle.std.specs.Prelude.{ℕ, List, [], ◌∷◌, Result, Ok, Err, drop, eqb, if◌then◌else◌}
use Prim.Native.Char.{code}
use Rattle.definition.specs.Text.{text}
use Rattle.definition.specs.Json as json
use Rattle.definition.specs.Json.{Json, Read, got, fault, malformed, skip_space, word, integer}
use Rattle.json_text.specs.declared.Fault.{Fault}
use Rattle.json_text.specs.Scanned.{fault_of}
use Rattle.json_scalar.specs.declared.Then.{Then}
use Rattle.json_scalar.specs.declared.Then.TheVariants.{More, Close}

-- a value that is no string and opens no bracket
unfoldable pub scalar_of : List ℕ → Read Json
scalar_of [] = fault malformed
scalar_of (b ∷ s) =
    if eqb b (code "t") then word (text "rue") s else
    if eqb b (code "f") then word (text "alse") s else
    if eqb b (code "n") then word (text "ull") s else
    if eqb b (code "-") then integer s else integer (b ∷ s)

-- what stands behind an element or a member, or the fault of what stands there
pub data Next : Type 0 where
  more close : List ℕ → Next
  neither : json.Fault → Next

unfoldable pub after_of : ℕ → List ℕ → Next
after_of bracket [] = neither malformed
after_of bracket (b ∷ s) =
    if eqb b (code ",") then more (skip_space s) else if eqb b bracket then close s else neither malformed

abbrev pub after_at : List ℕ → Result Then Fault → Next
after_at m (Ok (More i)) = more (drop i m)
after_at m (Ok (Close i)) = close (drop i m)
after_at m (Err f) = neither (fault_of f)

-- the definition's `colon`, before the value
unfoldable pub colon_at : List ℕ → Read (Unit {0})
colon_at [] = fault malformed
colon_at (b ∷ s) = if eqb b (code ":") then got tt (skip_space s) else fault malformed
