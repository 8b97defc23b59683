-- What the resolver leaves, for an end e and a list of consults l: how it ended, its counts, and what stands in the lent buffers where they
-- reach that far.
use Rattle.std.specs.Prelude.{◌≡◌, List, map, ℕ, ◌+◌, ◌≤◌, ◌<◌, min, length, take, drop}
use Rattle.definition.specs.Ask.{Consult}
use Rattle.definition.specs.Manifest.{End, end_texts}
use Rattle.definition.specs.Called.{joined, paths}
use Rattle.laws.specs.WalkBounds.{AllFit}
use Rattle.consults.specs.Tape.{most, packed, ending_of}
use Rattle.consults.specs.declared.Ending.{Ending}
use Rattle.consults.specs.declared.Mark.{Mark}

-- a consult's length and state in one number
abbrev pub packed_of : Consult → ℕ
packed_of c = packed (length c.path) c.state

-- how it ended, and its counts: that of the paths' bytes stops at 2 ^ 32, which the other one does not reach
pub record Counted (e : End) (l : List Consult) (x : Ending) (k : Mark) : Type 0 where
  pub ending : x ≡ ending_of e
  pub count : k.count ≡ length l
  pub few : length l < most
  pub size : k.size ≡ min (length (joined (paths l))) most

-- the list numbers, before they are spread
pub record Listed (l : List Consult) (numbers : List ℕ) : Type 0 where
  pub packs : 2 + length l ≤ length numbers → take (length l) (drop 2 numbers) ≡ map packed_of l
  pub fits : AllFit l

-- a text stands at a buffer's start
abbrev pub Begins : List ℕ → List ℕ → Type 0
Begins s buffer = length s ≤ length buffer → take (length s) buffer ≡ s

pub record Walked (e : End) (l : List Consult) (x : Ending) (k : Mark) (r n t : List ℕ) : Type 0 where
  pub counted : Counted e l x k
  pub result : Begins (joined (end_texts e)) r
  pub numbers : Listed l n
  pub list : length (joined (paths l)) < most → Begins (joined (paths l)) t
