-- What the answers of `listing_rules` mean.
use Rattle.std.specs.Prelude.{◌≡◌, ℕ, true, false, ◌+◌, length, drop, if◌then◌else◌, Option, Some, None}
use Rattle.definition.specs.Text.{Text, slash, before_last, contains, is_utf8}
use Rattle.laws.specs.ListingNameLaws.{is_name}

-- all that a component's bytes are tested for: so are ASCII bytes other than 0
abbrev pub Plain : Text → Type 0
Plain c = (is_utf8 c ≡ true) × (contains 0 c ≡ false)

-- the place of the last "/", where what stands behind it may stand in a path
unfoldable pub slash_before_name : Text → Option ℕ
slash_before_name q =
    if is_name (drop (length (before_last slash q) + 1) q) then Some (length (before_last slash q)) else None
