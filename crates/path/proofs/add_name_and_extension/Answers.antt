-- `add_name_and_extension` is the chain: three texts behind the path, each within the limit.
use mathlib.Core.Path.{◌∙◌}
use Rattle.definition.specs.Path.{limited}
use Rattle.path.proofs.Steps.{put_three}
use Rattle.path.proofs.add_name_and_extension.Goals as goal

pub returns : goal.returns
returns c =
    let a = c.args in
    c.append-3.ensures
    ∙ rw (c.append-2.ensures, c.append.ensures, c.from.ensures)
    (put_three (limited a.path.now) a.name.now a.ext.now)
