-- Whatever finishes the main fields that are left finishes all of them from where the loop began.
use Rattle.definition.specs.Settings.{texts_of}
use Rattle.settings.specs.Meaning.{texts_left}
use Rattle.consults.specs.Loop.{Left}
use Rattle.consults.specs.Meaning.{settings_in, seen_in, tape_of, place_of, Same}
use Rattle.directory.specs.Routines.{main_field}
use Rattle.directory.specs.Roots.{json_of}
use Rattle.directory.proofs.load_main_fields.Given as goal

abbrev pub invariant-loop-name : goal.invariant-loop-name
invariant-loop-name l =
    Same l.initial.tape l.tape
    × Left (seen_in l.job) (main_field (settings_in l.job) (place_of l.place) (json_of l.package.manifest.now))
    (texts_of l.job.settings.now 2) (tape_of l.initial.tape) (texts_left l.name-iterator) (tape_of l.tape)
