-- The code's places, outputs and steps of a string's reader as the definition's.
use Rattle.std.specs.Prelude.{◌≡◌, ℕ, zero, suc, ◌+◌, ◌*◌, ◌≤◌, ◌<◌, Bool, true, false, List, [], ◌∷◌, Option, Some, None, eqb, ltb, if◌then◌else◌}
use Rattle.std.proofs.Math.Option as math
use Rattle.definition.specs.Text.{within, utf8}
use Rattle.definition.specs.Json as json
use Rattle.definition.specs.Json.{between, sequence, escape, hex, second_escape, second_u, second_hex, bad, close, gives}
use Rattle.json_string.specs.declared.Place.{Place}
use Rattle.json_string.specs.declared.Place.TheVariants.{Between, Sequence, Escape, Hex, SecondEscape, SecondU, SecondHex}
use Rattle.json_string.specs.declared.Out.{Out}
use Rattle.json_string.specs.declared.Out.TheVariants.{Byte, Point}
use Rattle.json_string.specs.declared.Step.{Step}
use Rattle.json_string.specs.declared.Step.TheVariants.{Close, Gives}

abbrev pub place_of : Place → json.Place
place_of Between = between
place_of (Sequence n lo hi) = sequence n lo hi
place_of Escape = escape
place_of (Hex n v) = hex n v
place_of (SecondEscape h) = second_escape h
place_of (SecondU h) = second_u h
place_of (SecondHex h n v) = second_hex h n v

abbrev pub out_of : Option Out → List ℕ
out_of None = []
out_of (Some (Byte b)) = b ∷ []
out_of (Some (Point c)) = utf8 c

abbrev pub step_of : Option Step → json.Step
step_of None = bad
step_of (Some Close) = close
step_of (Some (Gives o p)) = gives (out_of o) (place_of p)

-- a high surrogate; what n hexadecimal digits more may follow
pub record High (h : ℕ) : Type 0 where
  pub low : 55296 ≤ h
  pub high : h ≤ 56319

abbrev pub bound : ℕ → ℕ
bound zero = 65536
bound (suc zero) = 4096
bound (suc (suc zero)) = 256
bound (suc (suc (suc zero))) = 16
bound (suc (suc (suc (suc n)))) = 1

pub record Below (n v : ℕ) : Type 0 where
  pub some_left : 0 < n
  pub at_most : n ≤ 4
  pub small : v < bound n

-- the numbers of a place are in range
abbrev pub Good : Place → Type 0
Good Between = Unit {0}
Good (Sequence n lo hi) = 0 < n
Good Escape = Unit {0}
Good (Hex n v) = Below n v
Good (SecondEscape h) = High h
Good (SecondU h) = High h
Good (SecondHex h n v) = High h × Below n v

-- the same of a place, by tests
unfoldable pub follows : ℕ → ℕ → Bool
follows n v =
    if eqb n 1 then ltb v 4096 else if eqb n 2 then ltb v 256 else if eqb n 3 then ltb v 16 else if eqb n 4 then eqb v 0 else false

abbrev pub fits : Place → Bool
fits Between = true
fits (Sequence n lo hi) = ltb 0 n
fits Escape = true
fits (Hex n v) = follows n v
fits (SecondEscape h) = within 55296 56319 h
fits (SecondU h) = within 55296 56319 h
fits (SecondHex h n v) = if within 55296 56319 h then follows n v else false

-- the definition's step from a place that fits; at any other a byte is bad
unfoldable pub advanced : Place → ℕ → json.Step
advanced p b = if fits p then json.step (place_of p) b else bad

abbrev pub GoodStep : Option Step → Type 0
GoodStep None = Unit {0}
GoodStep (Some Close) = Unit {0}
GoodStep (Some (Gives o p)) = Good p

pub record Steps (s : json.Step) (r : Option Step) : Type 0 where
  pub is : step_of r ≡ s
  pub good : GoodStep r

-- the end of the definition's plain_byte
unfoldable pub lead_byte : ℕ → json.Step
lead_byte b =
    if within 194 223 b then gives (b ∷ []) (sequence 1 128 191) else
    if eqb b 224 then gives (b ∷ []) (sequence 2 160 191) else
    if eqb b 237 then gives (b ∷ []) (sequence 2 128 159) else
    if within 225 239 b then gives (b ∷ []) (sequence 2 128 191) else
    if eqb b 240 then gives (b ∷ []) (sequence 3 144 191) else
    if within 241 243 b then gives (b ∷ []) (sequence 3 128 191) else
    if eqb b 244 then gives (b ∷ []) (sequence 3 128 143) else bad

-- hexadecimal digits worth v, with a digit more
abbrev pub WithDigit : ℕ → math.Option ℕ → Option ℕ → Type 0
WithDigit v d None = d ≡ math.none
WithDigit v d (Some u) = (x : ℕ) × ((d ≡ math.some x) × (u ≡ v * 16 + x) × (x ≤ 15))
