-- Where ".." pops, it goes as `push_component`.
use Rattle.std.proofs.Common.{◌∙◌, sym, true≢false}
use Rattle.path.proofs.Steps.{at_fits}
use Rattle.path.proofs.Parts.{relative_same, relative_stays}
use Rattle.path.proofs.PathBuf.push_or_keep.Goals as goal
use Rattle.path.proofs.PathBuf.push_or_keep.Goals.{else-equal-via-then-equal+else-not-pops, else-equal-via-else-equal}

pub returns-then-not-pops : goal.returns-then-not-pops
returns-then-not-pops c = c.join.ensures
    ∙ relative_stays _ _ _ (sym c.equal.ensures ∙ c.if-equal.true)
    (λ h. sym (c.pops.ensures _ (at_fits _ _ h)) ∙ c.if-not-pops.true)

pub returns-else-equal : goal.returns-else-equal
returns-else-equal c =
    c.push_component.ensures ∙ relative_same _ _ _
    (λ e h. elim c.else-equal.branch [
      | else-equal-via-then-equal+else-not-pops w ↦ sym (w.pops.ensures _ (at_fits _ _ h)) ∙ w.if-not-pops.false
      | else-equal-via-else-equal w ↦ absurd (true≢false (sym e ∙ sym c.equal.ensures ∙ w.if-equal.false))
    ])
