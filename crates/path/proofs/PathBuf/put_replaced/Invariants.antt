-- The path so far with the rest behind it, its stars replaced, is the answer.
use Rattle.std.proofs.Common.{◌≡◌, ◌++◌, drop}
use Rattle.definition.specs.Text.{star, replace}
use Rattle.definition.specs.Path.{and_path, limited}
use Rattle.path.specs.Meaning.{path_of}
use Rattle.path.proofs.PathBuf.put_replaced.Given as goal

abbrev pub invariant-loop-b : goal.invariant-loop-b
invariant-loop-b l =
    and_path (path_of l.self) (λ p. limited (p ++ replace star l.pattern (drop l.b-index l.t)))
    ≡ and_path (path_of l.initial.self) (λ p. limited (p ++ replace star l.pattern l.t))
