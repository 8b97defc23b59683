-- Whatever finishes the search in the directories that are left finishes it from where the loop began.
use Rattle.definition.specs.Settings.{Settings}
use Rattle.definition.specs.Called.{seen_by}
use Rattle.consults.specs.Meaning.{tape_of, Same}
use Rattle.manifests.specs.Meaning.{dirs_left}
use Rattle.manifests.proofs.Climbs.{Climbing}
use Rattle.manifests.proofs.find_package_json.Given as goal

abbrev pub invariant-loop-dir : goal.invariant-loop-dir
invariant-loop-dir l =
    Same l.initial.tape l.tape × ((G : Settings)
    → Climbing (seen_by G l.l) l.fn.dir (tape_of l.initial.tape) (dirs_left l.dir-iterator) (tape_of l.tape))
