-- The path so far with the rest of the parts pushed is the answer, and there is room for them.
use Rattle.std.proofs.Common.{length}
use Rattle.path.specs.Meaning.{path_of, Roomy}
use Rattle.path.proofs.Parts.{Going}
use Rattle.path.proofs.PathBuf.push_relative_parts.Given as goal

abbrev pub invariant-loop-part : goal.invariant-loop-part
invariant-loop-part l = (r : Roomy (path_of l.initial.self) (length l.sub))
    → Going r.text (path_of l.self) l.sub (length l.yielded)
