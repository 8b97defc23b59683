-- What an answer means: 01's number and the lengths of its texts, and the answer of an ending.
use Rattle.std.specs.Prelude.{List, [], ◌∷◌, ℕ}
use Rattle.refusal.specs.Numbers as refusals
use Rattle.consults.specs.declared.Ending.{Ending}
use Rattle.consults.specs.declared.Case.{Case}
use Rattle.consults.specs.declared.Case.TheVariants as InCase
use Rattle.answer.specs.declared.Answer.{Answer}
use Rattle.answer.specs.declared.Answer.TheVariants.{Found, NotFound, Empty, InvalidPackageTarget, PackagePathNotExported, InvalidPackageConfig, InvalidPackageConfigDirectory, Json, InvalidModuleSpecifier, PackageImportNotDefined, Recursion, Refused}

abbrev pub number_of : Answer → ℕ
number_of (Found p q f) = 0
number_of (NotFound s) = 1
number_of (Empty t) = 2
number_of (InvalidPackageTarget t k m) = 3
number_of (PackagePathNotExported s p) = 4
number_of (InvalidPackageConfig m) = 5
number_of (InvalidPackageConfigDirectory m) = 6
number_of (Json m) = 7
number_of (InvalidModuleSpecifier s m) = 50
number_of (PackageImportNotDefined s m) = 51
number_of Recursion = 56
number_of (Refused r) = refusals.number_of r

abbrev pub lengths_of : Answer → List ℕ
lengths_of (Found p q f) = p ∷ q ∷ f ∷ []
lengths_of (NotFound s) = s ∷ []
lengths_of (Empty t) = t ∷ []
lengths_of (InvalidPackageTarget t k m) = t ∷ k ∷ m ∷ []
lengths_of (PackagePathNotExported s p) = s ∷ p ∷ []
lengths_of (InvalidPackageConfig m) = m ∷ []
lengths_of (InvalidPackageConfigDirectory m) = m ∷ []
lengths_of (Json m) = m ∷ []
lengths_of (InvalidModuleSpecifier s m) = s ∷ m ∷ []
lengths_of (PackageImportNotDefined s m) = s ∷ m ∷ []
lengths_of Recursion = []
lengths_of (Refused r) = []

-- the answer of a case with three lengths
abbrev pub answer_in : Case → (first second third : ℕ) → Answer
answer_in InCase.Found a b c = Found a b c
answer_in InCase.NotFound a b c = NotFound a
answer_in InCase.Empty a b c = Empty a
answer_in InCase.InvalidPackageTarget a b c = InvalidPackageTarget a b c
answer_in InCase.PackagePathNotExported a b c = PackagePathNotExported a b
answer_in InCase.InvalidPackageConfig a b c = InvalidPackageConfig a
answer_in InCase.InvalidPackageConfigDirectory a b c = InvalidPackageConfigDirectory a
answer_in InCase.Json a b c = Json a
answer_in InCase.InvalidModuleSpecifier a b c = InvalidModuleSpecifier a b
answer_in InCase.PackageImportNotDefined a b c = PackageImportNotDefined a b
answer_in InCase.Recursion a b c = Recursion
answer_in (InCase.Refused r) a b c = Refused r

-- the answer of an ending
abbrev pub answer_by : Ending → Answer
answer_by x = answer_in x.case x.first x.second x.third
