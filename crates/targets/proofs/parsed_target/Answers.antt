-- A target that does not begin with "./" is invalid.
use Rattle.std.proofs.Common.{sym, ◌∙◌, ap}
use Rattle.targets.specs.declared.Outcome.TheVariants.{InvalidTarget}
use Rattle.targets.specs.Answers.{outcome_in}
use Rattle.targets.proofs.Targets.{text_put, put_short}
use Rattle.targets.proofs.Parsing.{path_invalid}
use Rattle.targets.proofs.parsed_target.Goals as goal

pub returns-else-starts_with-clause-result_after : goal.returns-else-starts_with-clause-result_after
returns-else-starts_with-clause-result_after c q a l =
    ap (outcome_in q.package_url q.key q.matched InvalidTarget) (text_put _ _ c.set.ensures l)
    ∙ path_invalid q _ (sym c.if-starts_with.ensures)

pub returns-else-starts_with-clause-texted : goal.returns-else-starts_with-clause-texted
returns-else-starts_with-clause-texted c l = put_short _ _ c.set.ensures l
