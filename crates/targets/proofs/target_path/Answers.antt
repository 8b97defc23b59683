-- The target is too long or invalid, or its path is over-long or found.
use Rattle.std.proofs.Common.{sym, ◌∙◌, ap}
use Rattle.definition.specs.Exports.{found}
use Rattle.targets.specs.declared.Outcome.TheVariants.{InvalidTarget}
use Rattle.path.specs.Meaning.{is_too_long}
use Rattle.targets.specs.Answers.{outcome_in, text_in}
use Rattle.targets.proofs.Targets.{text_put, put_short, target_over, target_invalid, path_over, path_found}
use Rattle.targets.proofs.target_path.Goals as goal

pub returns-then-t-gt2048-clause-result_after : goal.returns-then-t-gt2048-clause-result_after
returns-then-t-gt2048-clause-result_after c q u = target_over q c.args.t.now c.if-t-gt2048.true

pub returns-then-is_invalid_exports_target : goal.returns-then-is_invalid_exports_target
returns-then-is_invalid_exports_target c = record {
  result_after = λ q u.
      ap (outcome_in q.package_url q.key q.matched InvalidTarget) (text_put _ _ c.set.ensures c.if-t-gt2048.false)
      ∙ target_invalid q c.args.t.now c.if-t-gt2048.false (sym c.if-is_invalid_exports_target.ensures);
  texted = put_short _ _ c.set.ensures c.if-t-gt2048.false;
}

pub returns-in-Some-clause-result_after : goal.returns-in-Some-clause-result_after
returns-in-Some-clause-result_after c q u =
    ap (λ x. found (text_in x)) c.in-Some.ensures
    ∙ path_found q c.args.t.now c.if-t-gt2048.false (sym c.if-is_invalid_exports_target.ensures) _ u _
    c.set_normalized.ensures _ c.in-Some.ensures

pub returns-in-None-clause-result_after : goal.returns-in-None-clause-result_after
returns-in-None-clause-result_after c q u =
    path_over q c.args.t.now c.if-t-gt2048.false (sym c.if-is_invalid_exports_target.ensures) _ u _
    c.set_normalized.ensures c.in-None.ensures

pub returns-in-Some-clause-texted : goal.returns-in-Some-clause-texted
returns-in-Some-clause-texted c = ap is_too_long c.in-Some.ensures
