-- The root has no directory above it, any other path one for each slash.
use mathlib.Core.Path.{◌∙◌, sym}
use Rattle.definition.specs.Path.{depth}
use Rattle.manifests.proofs.depth.Goals as goal

pub returns-then-equal : goal.returns-then-equal
unfolding depth
returns-then-equal c = rw (sym c.equal.ensures ∙ c.if-equal.true)

pub returns-else-equal : goal.returns-else-equal
unfolding depth
returns-else-equal c = rw (sym c.equal.ensures ∙ c.if-equal.false) c.count.ensures
