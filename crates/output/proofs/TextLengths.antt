-- How many bytes the texts of an ending have.
use mathlib.Core.Path.{◌≡◌, refl}
use mathlib.Core.List.{[], ◌++◌}
use Prim.Native.Nat.{◌+◌}
use native.Mathlib.Omega.{arith}
use lib.ListN.{length, length-append}
use Rattle.definition.specs.Text.{Text}
use Rattle.definition.specs.Exports.{failure_texts, NotFound, Empty, InvalidPackageTarget, PackagePathNotExported, InvalidPackageConfig, InvalidPackageConfigDirectory, JsonError, InvalidModuleSpecifier, PackageImportNotDefined, Recursion}
use Rattle.definition.specs.Manifest.{failed, refused, End, found, stopped, end_texts}
use Rattle.definition.specs.Called.{joined}
use Rattle.consults.specs.Tape.{ending_of}
use Rattle.consults.specs.declared.Ending.{Ending}
use Rattle.answer.specs.Room.{text_length}

one : (a : Text) → length a + 0 + 0 ≡ length (a ++ [])
one a = omega (arith, length-append a [])

two : (a b : Text) → length a + length b + 0 ≡ length (a ++ (b ++ []))
two a b = omega (arith, length-append a (b ++ []), length-append b [])

three : (a b c : Text) → length a + length b + length c ≡ length (a ++ (b ++ (c ++ [])))
three a b c = omega (arith, length-append a (b ++ (c ++ [])), length-append b (c ++ []), length-append c [])

-- an ending's lengths are those of its texts, one behind the other
texts_length : (e : End) → text_length (ending_of e) ≡ length (joined (end_texts e))
unfolding ending_of end_texts failure_texts joined
texts_length (found w) = three w.path w.query w.fragment
texts_length (stopped (failed (NotFound s) c)) = one s
texts_length (stopped (failed (Empty t) c)) = one t
texts_length (stopped (failed (InvalidPackageTarget t k m) c)) = three t k m
texts_length (stopped (failed (PackagePathNotExported s p) c)) = two s p
texts_length (stopped (failed (InvalidPackageConfig m) c)) = one m
texts_length (stopped (failed (InvalidPackageConfigDirectory m) c)) = one m
texts_length (stopped (failed (JsonError m) c)) = one m
texts_length (stopped (failed (InvalidModuleSpecifier s m) c)) = two s m
texts_length (stopped (failed (PackageImportNotDefined s m) c)) = two s m
texts_length (stopped (failed Recursion c)) = refl
texts_length (stopped (refused r)) = refl

pub length_of : (x : Ending) (e : End) → x ≡ ending_of e → text_length x ≡ length (joined (end_texts e))
length_of x e k = rw k (texts_length e)
