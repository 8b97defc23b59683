-- A subpath that begins with "." is kept, and any other stands behind one.
use Rattle.std.proofs.Common.{◌∙◌, ap, sym}
use Rattle.definition.specs.Path.{limited, add_extension}
use Rattle.laws.specs.PathLaws.{limited_append}
use Rattle.package_name.proofs.Parts.{dotted, undotted}
use Rattle.package_name.proofs.dotted.Goals as goal

pub returns-then-starts_with : goal.returns-then-starts_with
returns-then-starts_with c = c.from.ensures
    ∙ ap limited (sym (dotted c.args.s.now (sym c.starts_with.ensures ∙ c.if-starts_with.true)))

pub returns-else-starts_with : goal.returns-else-starts_with
unfolding add_extension
returns-else-starts_with c =
    c.append.ensures
    ∙ rw (c.from-else-starts_with.ensures, undotted c.args.s.now (sym c.starts_with.ensures ∙ c.if-starts_with.false))
    (limited_append _ _)
