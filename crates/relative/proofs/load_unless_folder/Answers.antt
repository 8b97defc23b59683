-- 3.a is done or left out, by what `is_folder` says.
use mathlib.Core.Path.{sym, ◌∙◌}
use Rattle.relative.proofs.Steps.{file_skipped, file_tried}
use Rattle.relative.proofs.load_unless_folder.Goals as goal

pub returns-then-is_folder-clause-done : goal.returns-then-is_folder-clause-done
returns-then-is_folder-clause-done c = file_skipped _ _ _ (sym c.is_folder.ensures ∙ c.if-is_folder.true)

pub returns-clause-done : goal.returns-clause-done
returns-clause-done c =
    file_tried _ _ _ (sym c.is_folder.ensures ∙ c.if-is_folder.false) (rw c.bare.ensures at c.load_as_file.ensures.done)
