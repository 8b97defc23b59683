-- What the steps that are left lead to is what all of them lead to.
use Rattle.std.proofs.Common.{◌≡◌, ℕ, ◌-◌, List, Option, Some}
use Rattle.std.proofs.Math.Option.{Option as Found}
use lib.ListN.{drop}
use Rattle.definition.specs.JsonAt.{further}
use Rattle.package_json.specs.Cursors.{placed}
use Rattle.package_json.proofs.steps.Given as goal

abbrev pub invariant-loop : goal.invariant-loop
invariant-loop g l =
    goal.F-IsAlwaysCallable g l.next
    × ((m : List ℕ) (n : List ℕ → Found (List ℕ)) → ((here : ℕ) (r : Option ℕ) → goal.F-post g l.next here r → placed m r ≡ n (drop here m)) → further n l.count (placed m (Some l.from)) ≡ further n (l.count - l.counter) (placed m (Some l.here)))
