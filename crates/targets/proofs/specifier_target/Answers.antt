-- A path of at most 2,048 bytes has a text when it is unescaped.
use Rattle.std.proofs.Common.{◌∙◌, ap, sym, arith, length}
use Rattle.specifier.specs.Meaning.{path_text, written}
use Rattle.targets.specs.Answers.{path_target}
use Rattle.targets.proofs.Targets.{built_short, limited_text, limited_long}
use Rattle.targets.proofs.specifier_target.Goals as goal

pub returns-in-Plain-clause-result_after : goal.returns-in-Plain-clause-result_after
returns-in-Plain-clause-result_after c q a l =
    let e = ap path_text c.in-Plain.is in
    c.parsed_target.ensures.result_after q a (omega (arith, ap length e)) ∙ ap (path_target q) (sym e)

pub returns-in-Some-clause-result_after : goal.returns-in-Some-clause-result_after
returns-in-Some-clause-result_after c q a l =
    let e = ap path_text c.in-Escaped.is in
    c.parsed_target-in-Some.ensures.result_after q a (built_short _ _ _ c.in-Some.ensures)
    ∙ ap (path_target q) (limited_text _ _ (sym c.unescaped.ensures ∙ c.in-Some.ensures) ∙ sym e)

pub returns-in-None-clause-result_after : goal.returns-in-None-clause-result_after
returns-in-None-clause-result_after c q a l =
    let e = ap path_text c.in-Escaped.is in
    absurd (omega (arith, ap length e, limited_long _ (sym c.unescaped.ensures ∙ c.in-None.ensures)))

pub returns-in-Plain-clause-texted : goal.returns-in-Plain-clause-texted
returns-in-Plain-clause-texted c l =
    c.parsed_target.ensures.texted (omega (arith, ap length (ap written c.in-Plain.is)))

pub returns-in-Some-clause-texted : goal.returns-in-Some-clause-texted
returns-in-Some-clause-texted c l = c.parsed_target-in-Some.ensures.texted (built_short _ _ _ c.in-Some.ensures)
