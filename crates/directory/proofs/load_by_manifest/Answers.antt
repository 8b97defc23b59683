-- The main fields, and then the index.
use Rattle.definition.specs.Ask.{◌>>◌}
use Rattle.definition.specs.Settings.{settings_of}
use Rattle.directory.specs.Routines.{by_manifest}
use Rattle.consults.specs.Tape.{done_bind, done_stop}
use Rattle.directory.proofs.load_by_manifest.Goals as goal

pub returns-in_err-load_main_fields-clause-done : goal.returns-in_err-load_main_fields-clause-done
unfolding settings_of by_manifest ◌>>◌
returns-in_err-load_main_fields-clause-done c =
    rw c.from_residual.ensures (done_stop _ c.in_err-load_main_fields.ensures.done)

pub returns-clause-done : goal.returns-clause-done
unfolding settings_of by_manifest ◌>>◌
returns-clause-done c = done_bind _ c.in_ok-load_main_fields.ensures.done c.load_index.ensures.done
