-- The path so far with the rest of the parts pushed is the answer.
use Rattle.std.proofs.Common.{◌≡◌, length}
use Rattle.definition.specs.Path.{and_path, push_all}
use Rattle.laws.specs.PathLaws.{parts}
use Rattle.path.specs.Meaning.{path_of}
use Rattle.path.proofs.Parts.{parts_from}
use Rattle.path.proofs.PathBuf.push_parts.Given as goal

abbrev pub invariant-loop-part : goal.invariant-loop-part
invariant-loop-part l =
    and_path (path_of l.self) (λ p. push_all (parts_from (length l.yielded) l.sub) p)
    ≡ and_path (path_of l.initial.self) (λ p. push_all (parts l.sub) p)
