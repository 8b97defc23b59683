-- A value that is no string and opens no bracket is a scalar.
use mathlib.Core.Path.{◌∙◌, ap}
use borrow.Author.Rules.{rules}
use Rattle.package_json.specs.Cursors.{placed}
use Rattle.package_json.proofs.Whole.{scalar_end}
use Rattle.package_json.proofs.value_end.Goals as goal

pub returns-in_default : goal.returns-in_default
returns-in_default c =
    ap (placed c.args.m.now) c.ok.ensures.value
    ∙ scalar_end c.args.m.now c.args.at _ c.in_ok-byte_at.ensures.left (search rules) (search rules) (search rules) _ c.scalar.ensures
