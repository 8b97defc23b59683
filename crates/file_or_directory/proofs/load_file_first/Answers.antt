-- The file is tried or left out, by what `file_first` says.
use mathlib.Core.Path.{sym, ◌∙◌}
use Rattle.file_or_directory.proofs.Steps.{file_skipped, file_tried}
use Rattle.file_or_directory.proofs.load_file_first.Goals as goal

pub returns-then-not-file_first-clause-done : goal.returns-then-not-file_first-clause-done
returns-then-not-file_first-clause-done c = file_skipped _ _ _ _ (sym c.file_first.ensures ∙ c.if-not-file_first.true)

pub returns-clause-done : goal.returns-clause-done
returns-clause-done c =
    file_tried _ _ _ _ (sym c.file_first.ensures ∙ c.if-not-file_first.false)
    (rw c.bare.ensures at c.load_as_file.ensures.done)
