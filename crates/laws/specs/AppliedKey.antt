-- WORDS OF THE CHOSEN KEY: a key of the map, none that matches, and what fixes the key. The theorems: AppliedKey in proofs/.
use Rattle.std.proofs.Math.Path.{◌≡◌}
use Prim.Native.Nat.{Ordering}
use Rattle.std.specs.Prelude.{◌↔◌, ◌⊎◌}
use Rattle.std.proofs.Math.Bool.{true}
use mathlib.Core.List.{List, Memᴰ}
use Rattle.std.proofs.Math.Option.{Option, none, some}
use Rattle.definition.specs.Text.{Text, text, ends_with}
use Rattle.definition.specs.Exports.{Entry, PATTERN_KEY_COMPARE}
use Rattle.laws.specs.ChosenKey.{Matches}

-- a key of the map
abbrev pub IsKey : Text → List Entry → Type 0
IsKey k es = (e : Entry) × (Memᴰ e es × (e.key ≡ k))

-- no key of the map matches
abbrev pub NoneMatches : Text → List Entry → Type 0
NoneMatches mk es = (f : Entry) → Memᴰ f es → Matches mk f.key → ⊥

-- a choice with three of the four properties, for a map with distinct keys and a subpath that is no literal key: it is a key that matches, it comes
-- before every other that matches, and it is none exactly where none matches or the subpath ends in "/"
pub record Chooses (mk : Text) (es : List Entry) (choice : Option Text) : Type 0 where
  pub matching : (k : Text) → choice ≡ some k → IsKey k es × Matches mk k
  pub preferred : (k : Text) → choice ≡ some k → (f : Text) → IsKey f es → Matches mk f → (f ≡ k → ⊥) → PATTERN_KEY_COMPARE f k ≡ Ordering.gt
  pub exactly : choice ≡ none ↔ (NoneMatches mk es ⊎ (ends_with (text "/") mk ≡ true))
