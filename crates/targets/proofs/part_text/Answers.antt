-- The text of the part is copied.
use Rattle.std.proofs.Common.{◌∙◌, ap}
use lib.ListN.{length}
use Rattle.definition.specs.Text.{overwrite}
use Rattle.targets.proofs.part_text.Goals as goal

pub returns : goal.returns
returns c = record {
  value = ap length c.text-part.ensures;
  w_after = c.copy_at.ensures ∙ ap (λ t. overwrite 0 t c.args.w.now) c.text-part.ensures;
}
