-- An absolute path begins with "/".
use Rattle.std.proofs.Common.{◌∙◌, sym}
use Rattle.definition.specs.Text.{text}
use Rattle.laws.specs.TextLaws.{starts_with_take}
use Rattle.laws.specs.PathLaws.{root_of}
use Rattle.path.proofs.root.Goals as goal

pub returns-then-starts_with : goal.returns-then-starts_with
unfolding root_of
returns-then-starts_with c =
    let e = sym c.starts_with.ensures ∙ c.if-starts_with.true in
    rw e (c.first.ensures ∙ sym (starts_with_take (text "/") c.args.p.now e))

pub returns-else-starts_with : goal.returns-else-starts_with
unfolding root_of
returns-else-starts_with c = rw (sym c.starts_with.ensures ∙ c.if-starts_with.false) c.first-else-starts_with.ensures
