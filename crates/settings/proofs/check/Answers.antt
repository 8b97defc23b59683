-- The texts passed are in order, and what is left starts behind them: what a text breaks, or the length, breaks all.
use Rattle.std.proofs.Common.{◌≤◌, length, sym, ◌∙◌}
use Rattle.definition.specs.Settings.{text_lengths}
use Rattle.laws.specs.SettingsLaws.{refused_counts}
use Rattle.settings.proofs.Checked.{turn, lengths_here, left_start, too_short, too_long, wrong, left_next, left_end}
use Rattle.settings.proofs.check.Goals as goal

pub returns-then-not-counts_pass : goal.returns-then-not-counts_pass
returns-then-not-counts_pass c = sym (refused_counts _ (sym c.counts_pass.ensures ∙ c.if-not-counts_pass.true))

pub returns-in_default : goal.returns-in_default
returns-in_default c = sym (too_short _ _ c.count_before.ensures.is c.in_default.ensures.cases)

pub loop-k-init : goal.loop-k-init
loop-k-init c = left_start _ _ _ _ c.count_before.ensures.is c.in-Some.ensures.cases

pub returns-in_default-split_at_checked : goal.returns-in_default-split_at_checked
returns-in_default-split_at_checked c =
    let a = turn _ _ _ _ c.count_before.ensures.is c.in-Some.ensures.cases _ _ c.loop-k-test.true c.from.ensures in
    sym (too_long c.loop-k.invariant a c.in_default-split_at_checked.ensures.cases)

pub returns-then-not-text_passes : goal.returns-then-not-text_passes
returns-then-not-text_passes c =
    let a = turn _ _ _ _ c.count_before.ensures.is c.in-Some.ensures.cases _ _ c.loop-k-test.true c.from.ensures in
    let p = c.in-Some-split_at_checked.ensures.cases in
    sym (wrong c.loop-k.invariant a p c.is_extension.ensures c.text_passes.ensures c.if-not-text_passes.true)

pub loop-k-preserved : goal.loop-k-preserved
loop-k-preserved c =
    let a = turn _ _ _ _ c.count_before.ensures.is c.in-Some.ensures.cases _ _ c.loop-k-test.true c.from.ensures in
    let p = c.in-Some-split_at_checked.ensures.cases in
    left_next c.loop-k.invariant a p c.is_extension.ensures c.text_passes.ensures c.if-not-text_passes.false

pub returns : goal.returns
returns c =
    let s = c.args.s.now in
    let l = lengths_here s _ _ _ c.count_before.ensures.is c.in-Some.ensures.cases in
    let h : length (text_lengths s) ≤ c.loop-k.k = rw (← l) c.loop-k-test.false in
    c.is_empty.ensures ∙ left_end s _ _ (sym c.counts_pass.ensures ∙ c.if-not-counts_pass.false) c.loop-k.invariant h
