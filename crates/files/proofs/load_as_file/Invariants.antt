-- Whatever finishes the extensions that are left finishes all of them from where the loop began.
use Rattle.definition.specs.Walk.{try_extension}
use Rattle.settings.specs.Meaning.{texts_left}
use Rattle.consults.specs.Loop.{Left}
use Rattle.consults.specs.Meaning.{tape_of, place_of, seen_in, settings_in, Same}
use Rattle.files.proofs.load_as_file.Given as goal

abbrev pub invariant-loop-ext : goal.invariant-loop-ext
invariant-loop-ext l =
    let G = settings_in l.job in
    Same l.initial.tape l.tape
    × Left (seen_in l.job) (try_extension G (place_of l.place)) G.extensions (tape_of l.initial.tape)
    (texts_left l.ext-iterator) (tape_of l.tape)
