-- The loop keeps `Kept`, and each way out of it breaks a rule.
use Rattle.std.proofs.Common.{sym, ◌∙◌, ap, arith}
use Rattle.std.specs.Option.{is_some}
use Rattle.laws.specs.ListingOrder.{marks_one, marks_more, marks_size}
use Rattle.listing_check.proofs.Order.{no_entry, not_root, not_directory, kept_start, kept_end, next_short}
use Rattle.listing_check.proofs.Order.{kept_wrong, kept_next}
use Rattle.listing_check.proofs.ordered.Goals as goal
use Rattle.listing_check.proofs.ordered.Goals.{then-not-equal-via-then-not-equal}
use Rattle.listing_check.proofs.ordered.Goals.{then-not-equal-via-else-not-equal+then-not-root}

pub returns-in_default : goal.returns-in_default
returns-in_default c =
    let s = rw c.in_default.is at c.next.ensures.steps in
    no_entry c.args.l.now (sym c.new-left.ensures ∙ s.0)

pub returns-then-not-equal : goal.returns-then-not-equal
returns-then-not-equal c =
    let first = sym c.new-left.ensures ∙ c.in-Some.ensures.steps in
    elim c.then-not-equal.branch [
      | then-not-equal-via-then-not-equal w ↦ not_root c.args.l.now first c.equal.ensures w.if-not-equal.true
      | then-not-equal-via-else-not-equal+then-not-root w ↦
          not_directory c.args.l.now first c.equal.ensures w.if-not-equal.false w.if-not-root.true
    ]

pub loop-entry-init : goal.loop-entry-init
loop-entry-init c =
    let first = sym c.new-left.ensures ∙ c.in-Some.ensures.steps in
    rw c.into_iter-entry-iterator.ensures.into_iter_gives
    (kept_start c.args.l.now first c.equal.ensures c.if-not-equal.false c.if-not-root.false c.requires.sized _
    (marks_size 1025 1) (marks_one 1025 1 (omega arith)) (marks_more 1025 1))

pub step-requires-clause-here : goal.step-requires-clause-here
step-requires-clause-here c = next_short c.loop-entry.invariant c.in-Some-entry.ensures.steps

pub returns-in_default-step : goal.returns-in_default-step
returns-in_default-step c =
    kept_wrong c.loop-entry.invariant c.in-Some-entry.ensures.steps c.step.new.m _ c.step.ensures
    (ap is_some c.in_default-step.is)

pub loop-entry-preserved : goal.loop-entry-preserved
loop-entry-preserved c =
    kept_next c.loop-entry.invariant c.in-Some-entry.ensures.steps c.step.new.m _ c.step.ensures
    (ap is_some c.in-Some-step.is)

pub returns : goal.returns
returns c = kept_end c.loop-entry.invariant c.in-None.ensures.steps.0
