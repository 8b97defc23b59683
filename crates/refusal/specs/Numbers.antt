-- The numbers of the refusals.
use Rattle.std.specs.Prelude.{◌≡◌, ℕ}
use Rattle.refusal.specs.declared.Refusal.{Refusal}
use Rattle.refusal.specs.declared.Refusal.TheVariants.{ResultTooShort, ListTooShort, Specifier, Start, Settings, WorkTooShort, Sizes, Order, ManifestDirectory, ManifestBeyond, PathTooLong, TooManyConsults}

abbrev pub number_of : Refusal → ℕ
number_of ResultTooShort = 20
number_of ListTooShort = 21
number_of Specifier = 22
number_of Start = 23
number_of Settings = 24
number_of WorkTooShort = 25
number_of Sizes = 30
number_of Order = 31
number_of ManifestDirectory = 32
number_of ManifestBeyond = 40
number_of PathTooLong = 42
number_of TooManyConsults = 53

-- what `From` gives
abbrev pub Numbers : Refusal → ℕ → Type 0
Numbers r n = n ≡ number_of r
