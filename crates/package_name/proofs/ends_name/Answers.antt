-- The definition's three tests: the first two have failed where the third is made.
use Rattle.std.proofs.Common.{◌∙◌, sym}
use Rattle.path.proofs.Steps.{empty_is}
use Rattle.package_name.proofs.ends_name.Goals as goal
use Rattle.package_name.proofs.ends_name.Goals.{then-is_empty, else-is_empty}

pub returns-else-starts_with : goal.returns-else-starts_with
returns-else-starts_with c =
    c.starts_with-else-starts_with.ensures
    ∙ elim c.if-is_empty.branch [
      | then-is_empty w ↦ let h = c.if-starts_with.false in let i = w.value-is in let j = w.if-is_empty.true in cc
      | else-is_empty w ↦
          rw (
            empty_is c.args.tail.now c.is_empty.ensures w.if-is_empty.false,
            sym w.starts_with.ensures
                ∙ sym w.value-is ∙ c.if-starts_with.false,
          )
    ]
