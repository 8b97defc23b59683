-- The answer of an ending has the number and the lengths of the definition's end.
use mathlib.Core.Path.{◌≡◌, refl}
use mathlib.Core.List.{map}
use lib.ListN.{length}
use Rattle.definition.specs.Exports.{failure_number, failure_texts, NotFound, Empty, InvalidPackageTarget, PackagePathNotExported, InvalidPackageConfig, InvalidPackageConfigDirectory, JsonError, InvalidModuleSpecifier, PackageImportNotDefined, Recursion}
use Rattle.definition.specs.Manifest.{manifest_beyond, path_too_long, too_many, refusal_number, failed, refused, End, found, stopped, end_number, end_texts}
use Rattle.consults.specs.Ends.{case_of, failure_of, refusal_of}
use Rattle.consults.specs.Tape.{ending_of}
use Rattle.consults.specs.declared.Ending.{Ending}
use Rattle.answer.specs.declared.Answer.{Answer}
use Rattle.answer.specs.Meaning.{number_of, lengths_of, answer_by}

abbrev pub IsEnd : Answer → End → Type 0
IsEnd a e = (number_of a ≡ end_number e) × (lengths_of a ≡ map length (end_texts e))

is_end : (e : End) → IsEnd (answer_by (ending_of e)) e
unfolding ending_of case_of failure_of refusal_of end_number end_texts failure_number failure_texts refusal_number
is_end (found w) = (refl, refl)
is_end (stopped (failed (NotFound s) c)) = (refl, refl)
is_end (stopped (failed (Empty t) c)) = (refl, refl)
is_end (stopped (failed (InvalidPackageTarget t k m) c)) = (refl, refl)
is_end (stopped (failed (PackagePathNotExported s p) c)) = (refl, refl)
is_end (stopped (failed (InvalidPackageConfig m) c)) = (refl, refl)
is_end (stopped (failed (InvalidPackageConfigDirectory m) c)) = (refl, refl)
is_end (stopped (failed (JsonError m) c)) = (refl, refl)
is_end (stopped (failed (InvalidModuleSpecifier s m) c)) = (refl, refl)
is_end (stopped (failed (PackageImportNotDefined s m) c)) = (refl, refl)
is_end (stopped (failed Recursion c)) = (refl, refl)
is_end (stopped (refused manifest_beyond)) = (refl, refl)
is_end (stopped (refused path_too_long)) = (refl, refl)
is_end (stopped (refused too_many)) = (refl, refl)

pub answer_is : (x : Ending) (e : End) → x ≡ ending_of e → IsEnd (answer_by x) e
answer_is x e k = rw k (is_end e)
