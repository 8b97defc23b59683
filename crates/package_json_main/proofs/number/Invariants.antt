-- The number so far has at most five digits.
use Rattle.std.proofs.Common.{◌<◌}
use Rattle.package_json_main.proofs.number.Given as goal

abbrev pub invariant-loop-b : goal.invariant-loop-b
invariant-loop-b l = l.n < 100000
