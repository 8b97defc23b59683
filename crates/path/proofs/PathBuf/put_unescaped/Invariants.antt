-- The path so far with the rest behind it is the answer.
use Rattle.std.proofs.Common.{◌≡◌, ◌++◌, drop}
use Rattle.definition.specs.Path.{and_path, limited}
use Rattle.path.specs.Meaning.{path_of}
use Rattle.path.proofs.Widening.{widened}
use Rattle.path.proofs.PathBuf.put_unescaped.Given as goal

abbrev pub invariant-loop-i : goal.invariant-loop-i
invariant-loop-i l =
    and_path (path_of l.self) (λ p. limited (p ++ widened (drop l.i l.s)))
    ≡ and_path (path_of l.initial.self) (λ p. limited (p ++ widened l.s))
