-- Whatever finishes the main files that are left finishes all of them from where the loop began.
use Rattle.settings.specs.Meaning.{texts_left}
use Rattle.consults.specs.Loop.{Left}
use Rattle.consults.specs.Meaning.{tape_of, place_of, seen_in, settings_in, Same}
use Rattle.files.specs.Meaning.{load_main_file}
use Rattle.files.proofs.load_index.Given as goal

abbrev pub invariant-loop-file : goal.invariant-loop-file
invariant-loop-file l =
    let G = settings_in l.job in
    Same l.initial.tape l.tape
    × Left (seen_in l.job) (load_main_file G (place_of l.place)) G.main_files (tape_of l.initial.tape)
    (texts_left l.file-iterator) (tape_of l.tape)
