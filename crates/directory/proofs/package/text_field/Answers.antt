-- The member's value is looked for, and then its text is read.
use Rattle.directory.proofs.package.text_field.Goals as goal

pub returns-in_err-at : goal.returns-in_err-at
returns-in_err-at c = rw (c.from_residual.ensures, ← c.in_err-at.ensures)

pub returns : goal.returns
returns c = rw (← c.in_ok-at.ensures) c.read_text.ensures
