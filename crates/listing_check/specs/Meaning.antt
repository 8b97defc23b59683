-- What the types and answers of `listing_check` mean.
use Rattle.std.specs.Prelude.{◌≡◌, Bool, true, false, List, ◌∷◌, ℕ, length, if◌then◌else◌, Result, Ok, Err}
use Rattle.definition.specs.Text.{Text}
use Rattle.definition.specs.Listing.{Row, passes30, passes31, passes32}
use Rattle.laws.specs.ListingSteps.{row, rows_at}
use Rattle.laws.specs.ListingOrder.{Going, in_order}
use Rattle.listing_check.specs.declared.entries.Entry.{Entry}
use Rattle.listing_check.specs.declared.entries.EntriesLeft.{EntriesLeft}
use Rattle.refusal.specs.declared.Refusal.{Refusal}
use Rattle.refusal.specs.declared.Refusal.TheVariants as refused

-- an entry of the listing, and the entries that are left
abbrev pub row_of : Entry → Row
row_of e = row e.path.now e.directory e.contents.now

abbrev pub rows_left : EntriesLeft → List Row
rows_left s = rows_at s.listing.now s.index s.at

-- what the check says
unfoldable pub verdict : List ℕ → Result (Unit {0}) Refusal
verdict l =
    if passes30 l
    then if passes31 l then if passes32 l then Ok tt else Err refused.ManifestDirectory else Err refused.Order
    else Err refused.Sizes

-- one step of the pass over paths, order, parents and depth, whatever the entries are
abbrev pub Stepped : Text → Text → Bool → List ℕ → List ℕ → Bool → Type 0
Stepped p q d m m' true =
    (length m' ≡ length m)
    × ((rs tail rest : List Row) (s : List ℕ) → rest ≡ row q d s ∷ tail → Going rs p rest m → Going rs q tail m')
Stepped p q d m m' false =
    (rs tail rest : List Row) (s : List ℕ) → rest ≡ row q d s ∷ tail → Going rs p rest m → in_order rs ≡ false
