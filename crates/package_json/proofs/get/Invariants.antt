-- Among the members that are left the search goes on with what was found so far.
use Rattle.std.proofs.Common.{◌≡◌, drop}
use Rattle.definition.specs.JsonAt.{get_at}
use Rattle.package_json.specs.Cursors.{placed}
use Rattle.package_json.specs.Parts.{members_left}
use Rattle.package_json.proofs.Parts.{found_in}
use Rattle.package_json.proofs.get.Given as goal

abbrev pub invariant-loop-member : goal.invariant-loop-member
invariant-loop-member l = record {
  manifest : l.member-iterator.manifest.now ≡ l.m;
  same : get_at l.name (drop l.at l.m) ≡ found_in l.name (placed l.m l.found) (members_left l.member-iterator);
}
