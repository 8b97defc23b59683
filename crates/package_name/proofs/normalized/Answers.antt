-- `normalized`: a "/" at the end of the specifier is put behind what `normalize_relative` gives.
use mathlib.Core.Path.{sym, ◌∙◌}
use Rattle.package_name.proofs.Climb.{slash_kept, no_slash}
use Rattle.package_name.proofs.normalized.Goals as goal

pub returns-then-ends_with : goal.returns-then-ends_with
returns-then-ends_with c =
    let e = c.ends_with.ensures in
    let r = c.normalize_relative-p.ensures in
    c.append.ensures ∙ slash_kept _ _ r (sym e ∙ c.if-ends_with.true)

pub returns-else-ends_with : goal.returns-else-ends_with
returns-else-ends_with c =
    no_slash _ _ _ c.normalize_relative-p.ensures (sym c.ends_with.ensures ∙ c.if-ends_with.false)
