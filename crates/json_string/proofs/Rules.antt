-- What turns the code's tests and places into the definitions' own. `search rules` finds the facts among what a need is handed.
use mathlib.Core.Path.{◌≡◌}
use mathlib.Core.List.{List, [], ◌∷◌}
use Prim.Native.Nat.{ℕ, ◌+◌, ◌<◌, ◌≤◌}
use native.Mathlib.Numerals.{add-one}
use lib.ListN.{length, drop, get_or, drop_of_length-le}
use lib.Seq.{drop-cons}
use borrow.Author.Tests.{lt-ltb, le-ltb, le-leb, lt-leb, eq-eqb, ne_eqb}

-- the bytes from a place on: one and the rest, or none
pub here : (m : List ℕ) (i : ℕ) → i < length m → drop i m ≡ get_or m i 0 ∷ drop (i + 1) m
here m i l = rw add-one (drop-cons m i 0 l)

pub past : (m : List ℕ) (i : ℕ) → length m ≤ i → drop i m ≡ []
past m i l = drop_of_length-le m l

pub ruleset rules = (lt-ltb, le-ltb, le-leb, lt-leb, eq-eqb, ne_eqb, here, past)
