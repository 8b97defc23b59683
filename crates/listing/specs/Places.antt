-- Where entries begin, and the windows of a text that are read as numbers.
use Rattle.std.specs.Prelude.{◌≡◌, List, ℕ, zero, suc, ◌+◌, ◌*◌, ◌≤◌, length}
use Rattle.definition.specs.Listing.{entry_count, contents_length}
use Rattle.laws.specs.ListingSteps.{path_length_at, contents_mark_at}

-- where the i-th entry begins, by lengths that are added up unclamped
unfoldable pub start_of : List ℕ → ℕ → ℕ
start_of l zero = 8 + 8 * entry_count l
start_of l (suc i) = start_of l i + path_length_at l i + contents_length (contents_mark_at l i)

-- such a place, of one of at most 1,024 entries whose tables lie within the bytes
pub record Reached (l : List ℕ) (n i at : ℕ) : Type 0 where
  pub count : n ≡ entry_count l
  pub few : n ≤ 1024
  pub tables : 8 + 8 * n ≤ length l
  pub index : i ≤ n
  pub small : at ≤ 8 + 8 * n + i * 8589934592
  pub place : at ≡ start_of l i

-- windows of eight bytes, the first at 0, of which each begins in the one before it or right behind it
pub record Windows (at8 at16 at24 : ℕ) : Type 0 where
  pub low8 : at8 ≤ 8
  pub high16 : at8 ≤ at16
  pub low16 : at16 ≤ at8 + 8
  pub high24 : at16 ≤ at24
  pub low24 : at24 ≤ at16 + 8
