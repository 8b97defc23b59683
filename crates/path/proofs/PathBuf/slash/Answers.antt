-- An empty path and one that ends in a slash stay; behind any other a slash is put.
use Rattle.std.proofs.Common.{◌∙◌, sym}
use Rattle.std.proofs.Math.Bool.{or-true}
use Rattle.path.proofs.Steps.{empty_is, slash_there, slash_put}
use Rattle.path.proofs.PathBuf.slash.Goals as goal
use Rattle.path.proofs.PathBuf.slash.Goals.{else-not-is_empty-via-then-not-is_empty+else-not-ends_with, else-not-is_empty-via-else-not-is_empty}

pub returns-then-not-ends_with : goal.returns-then-not-ends_with
returns-then-not-ends_with c =
    c.put.ensures ∙ slash_put _ _ _ c.in-Some.ensures
    (rw (empty_is c.in-Some.p.now c.is_empty.ensures c.if-not-is_empty.true)
    (sym c.ends_with.ensures ∙ c.if-not-ends_with.true))

pub returns-else-not-is_empty : goal.returns-else-not-is_empty
returns-else-not-is_empty c =
    slash_there _ _ _ c.in-Some.ensures
    (elim c.else-not-is_empty.branch [
      | else-not-is_empty-via-then-not-is_empty+else-not-ends_with w ↦
          rw (sym w.ends_with.ensures ∙ w.if-not-ends_with.false) (or-true _)
      | else-not-is_empty-via-else-not-is_empty w ↦
          rw (empty_is c.in-Some.p.now c.is_empty.ensures w.if-not-is_empty.false)
    ])
