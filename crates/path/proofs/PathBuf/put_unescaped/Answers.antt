-- A character, or nothing, is written, and the rest is left.
use Rattle.std.proofs.Common.{◌∙◌, sym}
use Rattle.std.proofs.lemmas.List.{take_rest}
use Rattle.definition.specs.Path.{add_extension}
use Rattle.path.specs.Meaning.{path_of}
use Rattle.path.proofs.Widening.{grow, grown, widened_skip, widened_on, widened_end}
use Rattle.path.proofs.PathBuf.put_unescaped.Goals as goal
use Rattle.path.proofs.PathBuf.put_unescaped.Goals.{then-not-starts_with, else-not-starts_with}

pub loop-i-preserved : goal.loop-i-preserved
loop-i-preserved c =
    let s = c.args.s.now in
    let e = sym (rw (take_rest s c.loop-i.i) at c.starts_with.ensures) in
    elim c.if-not-starts_with.branch [
      | then-not-starts_with w ↦ rw w.self-is
          (grow (path_of c.loop-i.self) _ _ _ w.widen.ensures
          ∙ rw (widened_on s _ c.loop-i-test.true (e ∙ w.if-not-starts_with.true)) at c.loop-i.invariant)
      | else-not-starts_with w ↦
          rw w.self-is (rw (widened_skip s _ c.loop-i-test.true (e ∙ w.if-not-starts_with.false)) at c.loop-i.invariant)
    ]

pub returns : goal.returns
unfolding add_extension
returns c = grown _ _ ∙ rw (widened_end c.args.s.now _ c.loop-i-test.false) at c.loop-i.invariant
