-- The specifier has no path, or its path is the target.
use Rattle.std.proofs.Common.{◌∙◌, ap, arith}
use Rattle.specifier.specs.Meaning.{meant, written}
use Rattle.targets.specs.declared.Outcome.TheVariants.{Empty}
use Rattle.targets.specs.Answers.{outcome_in, resolved}
use Rattle.targets.proofs.Targets.{text_put, put_short}
use Rattle.targets.proofs.Parsing.{error_is, string_empty, string_parsed, path_short, front_short}
use Rattle.targets.proofs.text_target.Goals as goal

pub returns-in_default-clause-result_after : goal.returns-in_default-clause-result_after
returns-in_default-clause-result_after c m q a l i =
    rw c.new.ensures
    (ap (λ t. resolved m c.args.c (outcome_in q.package_url q.key q.matched Empty t))
    (text_put _ _ c.set.ensures (omega arith))
    ∙ string_empty c.args.s.now m q c.args.c (error_is _ _ c.in_default.ensures.parsed))

pub returns-clause-result_after : goal.returns-clause-result_after
unfolding meant
returns-clause-result_after c m q a l i =
    let p = c.in-Ok.parsed in
    let short = path_short p.path p.query.now p.fragment.now c.args.s.now c.in-Ok.ensures.whole
    (λ k. omega (arith, c.type_inv.s k)) l in
    rw c.new-2.ensures
    (ap (resolved m c.parsed_context-context.result) (c.specifier_target.ensures.result_after q a short)
    ∙ string_parsed _ m q c.args.c _ _ _ _ short c.in-Ok.ensures.parsed (c.parsed_context-context.ensures m i))

pub returns-in_default-clause-texted : goal.returns-in_default-clause-texted
returns-in_default-clause-texted c l = rw c.new.ensures (put_short _ _ c.set.ensures l)

pub returns-clause-texted : goal.returns-clause-texted
returns-clause-texted c l =
    let p = c.in-Ok.parsed in
    rw c.new-2.ensures
    (c.specifier_target.ensures.texted
    (omega (arith, l, front_short (written p.path) p.query.now p.fragment.now c.args.s.now c.in-Ok.ensures.whole)))
