-- The keys so far are those of the members that have come.
use Rattle.definition.specs.Json.{Members, obj}
use Rattle.package_target.specs.Places.{Stands}
use Rattle.exports.proofs.Objects.{Keyed}
use Rattle.exports.proofs.Map.keys.Given as goal

abbrev pub invariant-loop-member : goal.invariant-loop-member
invariant-loop-member l =
    (ms : Members) → Stands l.self.manifest.now 15 l.self.at
    (obj ms) → Keyed l.self.manifest.now ms l.member-iterator l.keys
