-- What is found is a directory where the definition's search finds one.
use Rattle.std.proofs.Common.{◌≡◌, List, ℕ, false, refl, sym, ◌∙◌, ap}
use Rattle.definition.specs.Listing.{is_directory_of, is_directory_entry}
use Rattle.listing.specs.declared.Found.{Found}
use Rattle.listing.specs.declared.Found.TheVariants.{Absent, Directory, File}
use Rattle.listing.specs.Meaning.{seen}
use Rattle.listing.proofs.is_directory.Goals as goal

pub returns-in-Directory : goal.returns-in-Directory
unfolding is_directory_of is_directory_entry
returns-in-Directory c = rw (sym c.search.ensures.entry ∙ ap (seen c.args.l.now) c.in-Directory.is)

other : (l : List ℕ) (r : Found) → (r ≡ Directory → ⊥) → is_directory_entry (seen l r) ≡ false
unfolding is_directory_entry
other l Absent n = refl
other l Directory n = absurd (n refl)
other l (File a e) n = refl

pub returns-in_default : goal.returns-in_default
unfolding is_directory_of
returns-in_default c = rw (sym c.search.ensures.entry)
    (sym (other c.args.l.now c.search.result c.in_default.not-Directory))
