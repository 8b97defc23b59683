-- The text of a path is the target that was built.
use Rattle.std.proofs.Common.{◌∙◌}
use Rattle.targets.proofs.Targets.{built_over, built_text}
use Rattle.targets.proofs.built_target.Goals as goal

pub returns-in-Some-clause-result_after : goal.returns-in-Some-clause-result_after
returns-in-Some-clause-result_after c q t u e =
    c.target_path.ensures.result_after q u ∙ built_text q t _ e _ c.in-Some.ensures

pub returns-in-None-clause-result_after : goal.returns-in-None-clause-result_after
returns-in-None-clause-result_after c q t u e = built_over q t _ e c.in-None.ensures
