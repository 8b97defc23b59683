-- The query and the fragment so far: parts of the strings of a manifest m.
use Rattle.std.specs.Prelude.{◌≡◌, ℕ, List, [], length, drop, take}
use Rattle.definition.specs.Json.{Read, got, fault, quoted}
use Rattle.definition.specs.Exports as exports
use Rattle.targets.specs.declared.Part.{Part}
use Rattle.targets.specs.declared.Context.{Context}

-- the text of the string at a place
abbrev pub read_text : Read (List ℕ) → List ℕ
read_text (got k s) = k
read_text (fault f) = []

abbrev pub string_at : (m : List ℕ) → ℕ → List ℕ
string_at m i = read_text (quoted (drop i m))

-- the text of a part, which is inside its string
abbrev pub part_text : (m : List ℕ) → Part → List ℕ
part_text m p = take p.span.len (drop p.span.start (string_at m p.at))

abbrev pub Inside : (m : List ℕ) → Part → Type 0
Inside m p = length (part_text m p) ≡ p.span.len

abbrev pub context_of : (m : List ℕ) → Context → exports.Context
context_of m c = record { query = part_text m c.query; fragment = part_text m c.fragment }
