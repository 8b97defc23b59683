-- A star, or another byte, is written, and the rest is left.
use Rattle.std.proofs.Common.{◌∙◌}
use Rattle.definition.specs.Path.{add_extension}
use Rattle.path.specs.Meaning.{path_of}
use Rattle.path.proofs.Widening.{grow, grown, replace_star, replace_other, replace_end}
use Rattle.path.proofs.PathBuf.put_replaced.Goals as goal
use Rattle.path.proofs.PathBuf.put_replaced.Goals.{then-b-eq42, else-b-eq42}

pub loop-b-preserved : goal.loop-b-preserved
loop-b-preserved c =
    let p = c.args.pattern.now in
    let t = c.args.t.now in
    elim c.if-b-eq42.branch [
      | then-b-eq42 w ↦
          rw w.self-is
          (grow (path_of c.loop-b.self) _ _ _ w.put.ensures
          ∙ rw (replace_star p t _ c.loop-b-test.true w.if-b-eq42.true) at c.loop-b.invariant)
      | else-b-eq42 w ↦
          rw w.self-is
          (grow (path_of c.loop-b.self) _ _ _ w.put-else-b-eq42.ensures
          ∙ rw (replace_other p t _ c.loop-b-test.true w.if-b-eq42.false) at c.loop-b.invariant)
    ]

pub returns : goal.returns
unfolding add_extension
returns c = grown _ _ ∙ rw (replace_end c.args.pattern.now c.args.t.now _ c.loop-b-test.false) at c.loop-b.invariant
