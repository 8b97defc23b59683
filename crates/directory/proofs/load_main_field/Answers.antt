-- The field's text, if it has one, is tried.
use Rattle.directory.specs.Routines.{main_field}
use Rattle.directory.proofs.Manifests.{perhaps_none, perhaps_some}
use Rattle.directory.proofs.load_main_field.Goals as goal

pub returns-in-None-clause-done : goal.returns-in-None-clause-done
unfolding main_field
returns-in-None-clause-done c = perhaps_none _ _ (rw c.in-None.is at c.text_field.ensures)

pub returns-in-Some-clause-done : goal.returns-in-Some-clause-done
unfolding main_field
returns-in-Some-clause-done c = perhaps_some _ _ _ (rw c.in-Some.is at c.text_field.ensures) c.load_main.ensures.done
