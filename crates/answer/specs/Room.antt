-- What an ending and a list take of the lent buffers, and the refusals behind the lookup.
use Rattle.std.specs.Prelude.{Bool, not, ◌&&◌, ℕ, ◌+◌, ◌*◌, ◌≤◌, ◌<◌, ltb, leb, Option, Some, None, Result, Ok, Err, if◌then◌else◌}
use Rattle.refusal.specs.declared.Refusal.{Refusal}
use Rattle.refusal.specs.declared.Refusal.TheVariants.{ResultTooShort, ListTooShort}
use Rattle.consults.specs.Tape.{most}
use Rattle.consults.specs.declared.Case.{Case}
use Rattle.consults.specs.declared.Case.TheVariants.{Found, NotFound, Empty, InvalidPackageTarget, PackagePathNotExported, InvalidPackageConfig, InvalidPackageConfigDirectory, Json, InvalidModuleSpecifier, PackageImportNotDefined, Recursion, Refused}
use Rattle.consults.specs.declared.Ending.{Ending}
use Rattle.consults.specs.declared.Mark.{Mark}

-- an ending's texts, and the list numbers, have so many bytes and numbers
abbrev pub text_length : Ending → ℕ
text_length x = x.first + x.second + x.third

abbrev pub numbers_length : Mark → ℕ
numbers_length k = 2 + 2 * k.count

-- the buffers reach that far, and the list's count and size, which are list numbers too, are short of where they stop
abbrev pub texts_fit : Ending → ℕ → Bool
texts_fit x r = leb (text_length x) r

abbrev pub list_fits : Mark → ℕ → ℕ → Bool
list_fits k n t = ltb k.count most && (leb (numbers_length k) n && (ltb k.size most && leb k.size t))

pub record Room (x : Ending) (k : Mark) (r n t : ℕ) : Type 0 where
  pub result : text_length x ≤ r
  pub count : k.count < most
  pub numbers : numbers_length k ≤ n
  pub size : k.size < most
  pub list : k.size ≤ t

-- the refusals behind the lookup: its own, which a case holds, then 20, then 21
abbrev pub refusal_in : Case → Option Refusal
refusal_in (Refused r) = Some r
refusal_in Found = None
refusal_in NotFound = None
refusal_in Empty = None
refusal_in InvalidPackageTarget = None
refusal_in PackagePathNotExported = None
refusal_in InvalidPackageConfig = None
refusal_in InvalidPackageConfigDirectory = None
refusal_in Json = None
refusal_in InvalidModuleSpecifier = None
refusal_in PackageImportNotDefined = None
refusal_in Recursion = None

abbrev pub unless_own : Option Refusal → Result (Unit {0}) Refusal → Result (Unit {0}) Refusal
unless_own (Some r) rest = Err r
unless_own None rest = rest

abbrev pub checked_by : Ending → Mark → ℕ → ℕ → ℕ → Result (Unit {0}) Refusal
checked_by x k r n t = unless_own (refusal_in x.case) (
    if not (texts_fit x r) then Err ResultTooShort else
    if not (list_fits k n t) then Err ListTooShort else
    Ok tt)
