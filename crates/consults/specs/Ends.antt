-- The states of paths and the ends of lookups, as the code names them, with document 01's numbers. Assumes nothing.
use Rattle.std.specs.Prelude.{◌≡◌, ℕ}
use Rattle.std.proofs.Math.Path.{refl}
use Rattle.definition.specs.Exports.{Failure, failure_number}
use Rattle.definition.specs.Ask as asks
use Rattle.definition.specs.Manifest.{End, found, stopped, failed, refused, end_number, refusal_number}
use Rattle.definition.specs.Manifest as manifest
use Rattle.refusal.specs.Numbers.{number_of}
use Rattle.refusal.specs.declared.Refusal.{Refusal}
use Rattle.refusal.specs.declared.Refusal.TheVariants.{ManifestBeyond, PathTooLong, TooManyConsults}
use Rattle.consults.specs.declared.State.{State}
use Rattle.consults.specs.declared.State.TheVariants.{Absent, Directory, File, Read}
use Rattle.consults.specs.declared.Case.{Case}
use Rattle.consults.specs.declared.Case.TheVariants.{Found, NotFound, Empty, InvalidPackageTarget, PackagePathNotExported, InvalidPackageConfig, InvalidPackageConfigDirectory, Json, InvalidModuleSpecifier, PackageImportNotDefined, Recursion, Refused}

abbrev pub number_of_state : State → ℕ
number_of_state Absent = 0
number_of_state Directory = 1
number_of_state File = 2
number_of_state Read = 3

-- what `From` gives
abbrev pub Numbers : State → ℕ → Type 0
Numbers s n = n ≡ number_of_state s

-- the definition's state: a file that was read is a file
abbrev pub asked_of : State → asks.State
asked_of Absent = asks.absent
asked_of Directory = asks.directory
asked_of File = asks.file
asked_of Read = asks.file

abbrev pub number_of_case : Case → ℕ
number_of_case Found = 0
number_of_case NotFound = 1
number_of_case Empty = 2
number_of_case InvalidPackageTarget = 3
number_of_case PackagePathNotExported = 4
number_of_case InvalidPackageConfig = 5
number_of_case InvalidPackageConfigDirectory = 6
number_of_case Json = 7
number_of_case InvalidModuleSpecifier = 50
number_of_case PackageImportNotDefined = 51
number_of_case Recursion = 56
number_of_case (Refused r) = number_of r

abbrev pub CaseNumbers : Case → ℕ → Type 0
CaseNumbers c n = n ≡ number_of_case c

-- the definition's ends
unfoldable pub refusal_of : manifest.Refusal → Refusal
refusal_of manifest.manifest_beyond = ManifestBeyond
refusal_of manifest.path_too_long = PathTooLong
refusal_of manifest.too_many = TooManyConsults

unfoldable pub failure_of : Failure → Case
failure_of (Failure.NotFound s) = NotFound
failure_of (Failure.Empty t) = Empty
failure_of (Failure.InvalidPackageTarget t k m) = InvalidPackageTarget
failure_of (Failure.PackagePathNotExported s p) = PackagePathNotExported
failure_of (Failure.InvalidPackageConfig m) = InvalidPackageConfig
failure_of (Failure.InvalidPackageConfigDirectory m) = InvalidPackageConfigDirectory
failure_of (Failure.JsonError m) = Json
failure_of (Failure.InvalidModuleSpecifier s m) = InvalidModuleSpecifier
failure_of (Failure.PackageImportNotDefined s m) = PackageImportNotDefined
failure_of Failure.Recursion = Recursion

unfoldable pub case_of : End → Case
case_of (found w) = Found
case_of (stopped (failed f c)) = failure_of f
case_of (stopped (refused r)) = Refused (refusal_of r)

-- the numbers are those of the definition
refusal_number_of : (r : manifest.Refusal) → number_of (refusal_of r) ≡ refusal_number r
unfolding refusal_of refusal_number
refusal_number_of manifest.manifest_beyond = refl
refusal_number_of manifest.path_too_long = refl
refusal_number_of manifest.too_many = refl

failure_number_of : (f : Failure) → number_of_case (failure_of f) ≡ failure_number f
unfolding failure_of failure_number
failure_number_of (Failure.NotFound s) = refl
failure_number_of (Failure.Empty t) = refl
failure_number_of (Failure.InvalidPackageTarget t k m) = refl
failure_number_of (Failure.PackagePathNotExported s p) = refl
failure_number_of (Failure.InvalidPackageConfig m) = refl
failure_number_of (Failure.InvalidPackageConfigDirectory m) = refl
failure_number_of (Failure.JsonError m) = refl
failure_number_of (Failure.InvalidModuleSpecifier s m) = refl
failure_number_of (Failure.PackageImportNotDefined s m) = refl
failure_number_of Failure.Recursion = refl

pub case_number : (e : End) → number_of_case (case_of e) ≡ end_number e
unfolding case_of end_number
case_number (found w) = refl
case_number (stopped (failed f c)) = failure_number_of f
case_number (stopped (refused r)) = refusal_number_of r
