-- What the types and answers of `listing` mean.
use Rattle.std.specs.Prelude.{◌≡◌, List, [], ◌∷◌, ℕ, zero, suc, ◌+◌, ◌*◌, ◌≤◌, ◌<◌, Bool, true, false, ◌&&◌, eqb, leb}
use Rattle.std.specs.Prelude.{length, drop, get_or, if◌then◌else◌, Option, Some, None, Result, Ok, Err}
use Rattle.definition.specs.Text.{Text, equal, smaller}
use Rattle.definition.specs.Listing.{Entry, no_entry, directory_entry, file_entry, Span, number32, found_at, place_at}
use Rattle.laws.specs.ListingSteps.{part, path_length_at, row_by, rows_at}
use Rattle.listing.specs.declared.Found.{Found}
use Rattle.listing.specs.declared.Found.TheVariants.{Absent, Directory, File}
use Rattle.listing.specs.declared.PastEnd.{PastEnd}
use Rattle.listing.specs.Places.{start_of}
use Rattle.listing.specs.declared.spot.Spot.{Spot}
use Rattle.listing.specs.declared.Place.{Place}
use Rattle.listing.specs.declared.words.Words.{Words}

-- what a search found: the contents are that part of the bytes, and lie within them
abbrev pub seen : List ℕ → Found → Entry (List ℕ)
seen l Absent = no_entry
seen l Directory = directory_entry
seen l (File a e) = file_entry (part l a e)

abbrev pub Inside : List ℕ → Found → Type 0
Inside l Absent = Unit {0}
Inside l Directory = Unit {0}
Inside l (File a e) = (a ≤ e) × (e ≤ length l)

-- the same by the places alone
abbrev pub place_of : Found → Entry Span
place_of Absent = no_entry
place_of Directory = directory_entry
place_of (File a e) = file_entry (record { start = a; end = e })

-- what is found and where it stands, of empty contents too: the definition's search
pub record Searched (l : List ℕ) (p : Text) (r : Found) : Type 0 where
  pub entry : seen l r ≡ found_at l p
  pub place : place_of r ≡ place_at l p
  pub inside : Inside l r

-- what a search over unclamped lengths says, where it is sure
abbrev pub Attempted : List ℕ → Text → Result Found PastEnd → Type 0
Attempted l p (Ok f) = place_of f ≡ place_at l p
Attempted l p (Err e) = Unit {0}

-- whether the i-th path lies within the bytes and is the one sought; and that none before it is
abbrev pub has_path : List ℕ → Text → ℕ → Bool
has_path l p i =
    leb (start_of l i + path_length_at l i) (length l)
    && equal (part l (start_of l i) (start_of l i + path_length_at l i)) p

abbrev pub NoneBefore : List ℕ → Text → ℕ → Type 0
NoneBefore l p i = (j : ℕ) → j < i → has_path l p j ≡ false

-- a place in the same listing
abbrev pub SameListing : Spot → Spot → Type 0
SameListing s t = (t.listing.now ≡ s.listing.now) × (t.count ≡ s.count)

-- what the search for an equal path says, from the first entry on
abbrev pub SoughtFor : Spot → Text → Result (Option Spot) PastEnd → Type 0
SoughtFor f p (Ok (Some s)) =
    SameListing f s × (s.index < f.count) × (has_path f.listing.now p s.index ≡ true)
    × NoneBefore f.listing.now p s.index
SoughtFor f p (Ok None) = place_at f.listing.now p ≡ no_entry
SoughtFor f p (Err e) = Unit {0}

-- the first of the entries from the i-th on, where its path begins at `at`
pub record Placed (l : List ℕ) (i at : ℕ) (p : Place) : Type 0 where
  pub starts : at ≤ p.end
  pub ends : p.end ≤ p.next
  pub inside : p.next ≤ length l
  pub rows : rows_at l i at ≡ row_by l at p.end p.next p.directory ∷ rows_at l (i + 1) p.next

-- n bytes behind an a as a number, the first the highest
abbrev pub high_first : ℕ → ℕ → List ℕ → ℕ
high_first zero a s = a
high_first (suc n) a s = high_first n (a * 256 + get_or s 0 0) (drop 1 s)

-- a text's eight bytes at k as a number, the first the lowest; no matter what where it has not so many
abbrev pub LowWord : List ℕ → ℕ → ℕ → Type 0
LowWord q k w = k + 8 ≤ length q → w ≡ number32 (drop k q) + 4294967296 * number32 (drop (k + 4) q)

-- the same with the first byte the highest; 0 where it has not so many
abbrev pub HighWord : List ℕ → ℕ → ℕ → Type 0
HighWord q k w = (k + 8 ≤ length q → w ≡ high_first 8 0 (drop k q)) × (0 < w → k + 8 ≤ length q)

-- what stands in those windows of a text
pub record WordsOf (q : List ℕ) (w : Words) : Type 0 where
  pub bytes : (i : ℕ) → get_or q i 0 < 256
  pub is_start : LowWord q 0 w.start
  pub is_next : LowWord q w.at8 w.next
  pub first : HighWord q 0 w.first
  pub second : HighWord q w.at8 w.second
  pub third : HighWord q w.at16 w.third
  pub fourth : HighWord q w.at24 w.fourth

-- how many bytes both texts begin with
unfoldable pub shared_length : Text → Text → ℕ
shared_length [] q = 0
shared_length (x ∷ p) [] = 0
shared_length (x ∷ p) (y ∷ q) = if eqb x y then suc (shared_length p q) else 0

-- q is larger than p and parts from it there, or it is not larger
unfoldable pub parting_of : Text → Text → Option ℕ
parting_of p q = if smaller p q then Some (shared_length p q) else None
