-- The best key so far is that of the members that have come.
use Rattle.definition.specs.Json.{Members, obj}
use Rattle.package_target.specs.Places.{Stands}
use Rattle.exports.proofs.Objects.{Besting}
use Rattle.exports.proofs.Map.best.Given as goal

abbrev pub invariant-loop-member : goal.invariant-loop-member
invariant-loop-member l =
    (ms : Members) → Stands l.self.manifest.now 15 l.self.at
    (obj ms) → Besting l.self.manifest.now l.match_key ms l.member-iterator l.best
