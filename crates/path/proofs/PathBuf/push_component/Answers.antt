-- ".." is the parent, an empty part and "." are no component, and any other part is a name.
use Rattle.std.proofs.Common.{◌∙◌, sym}
use borrow.Author.Tests.{eqb-true, eqb-false}
use Rattle.laws.specs.PathLaws.{component_empty, component_dot, component_name}
use Rattle.path.proofs.Parts.{push_none, push_up, push_name}
use Rattle.path.proofs.PathBuf.push_component.Goals as goal
use Rattle.path.proofs.PathBuf.push_component.Goals.{else-not-is_empty-via-then-not-is_empty+else-not-equal, else-not-is_empty-via-else-not-is_empty}

pub returns-then-equal : goal.returns-then-equal
returns-then-equal c = c.up.ensures ∙ push_up _ _ _ (sym c.equal.ensures ∙ c.if-equal.true)

pub returns-then-not-equal : goal.returns-then-not-equal
returns-then-not-equal c =
    c.join.ensures ∙ push_name _ _ _
    (component_name _ (eqb-false _ _ (sym c.is_empty.ensures ∙ c.if-not-is_empty.true))
    (sym c.equal-then-not-is_empty.ensures ∙ c.if-not-equal.true) (sym c.equal.ensures ∙ c.if-equal.false))

pub returns-else-not-is_empty : goal.returns-else-not-is_empty
returns-else-not-is_empty c =
    push_none _ _ _
    (elim c.else-not-is_empty.branch [
      | else-not-is_empty-via-then-not-is_empty+else-not-equal w ↦
          component_dot _ (sym w.equal-then-not-is_empty.ensures ∙ w.if-not-equal.false)
      | else-not-is_empty-via-else-not-is_empty w ↦
          component_empty _ (eqb-true _ _ (sym c.is_empty.ensures ∙ w.if-not-is_empty.false))
    ])
