-- The place that was next comes, with a value behind it, and the next one stands behind that.
use Rattle.std.proofs.Common.{◌≡◌, ℕ, List, Option, Some, None, MatchOption, drop, refl, ◌∙◌, ap, arith, rules}
use Rattle.definition.specs.JsonAt.{then_at, next_element, next_member}
use Rattle.package_json.specs.Cursors.{placed}
use Rattle.package_json.proofs.Parts.{none_over, none_there, one_there}
use Rattle.package_json.proofs.MembersLeftIterator.next.Goals as goal

pub returns-in_err-self-clause-steps : goal.returns-in_err-self-clause-steps
returns-in_err-self-clause-steps c =
    rw c.from_residual.ensures (none_over next_member c.args.self.now.left _ (omega (arith, c.in_err-self.ensures)))

pub returns-in_err-name-clause-steps : goal.returns-in_err-name-clause-steps
returns-in_err-name-clause-steps c =
    rw c.from_residual-in_err-name.ensures
    (none_there next_member c.args.self.now.left _ (ap (placed c.args.self.now.manifest.now) c.in_err-name.was))

next_is : (m : List ℕ) (v r : Option ℕ) (P : ℕ → Type 0) → MatchOption v (r ≡ None) P
    → ((x : ℕ) → P x → placed m r ≡ next_element (drop x m)) → placed m r ≡ then_at (placed m v) next_element
next_is m (Some x) r P h f = f x h
next_is m None r P h f = rw h

pub returns-clause-steps : goal.returns-clause-steps
unfolding next_member
returns-clause-steps c =
    let m = c.args.self.now.manifest.now in
    record {
      manifest = refl;
      first =
          one_there next_member c.args.self.now.left _ c.in_ok-self.field-0 (omega (arith, c.in_ok-self.ensures))
          (ap (placed m) c.in_ok-name.was)
          (next_is m c.member_value-value.result c.and_then-self.result _ c.and_then-self.ensures
          (λ x p. search (rules, p))
          ∙ ap (λ x. then_at x next_element) c.member_value-value.ensures);
      value = c.member_value-value.ensures;
    }
