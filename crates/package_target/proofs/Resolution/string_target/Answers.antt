-- The text that was read is the string's.
use Rattle.std.proofs.Common.{sym, ◌∙◌, ap, rules, arith, length}
use Rattle.definition.specs.Specifier.{parse_specifier}
use Rattle.definition.specs.Exports.{string_target}
use Rattle.targets.specs.Contexts.{context_of}
use Rattle.targets.proofs.Contexts.{text_read, string_short}
use Rattle.package_target.proofs.Places.{text_short, string_is}
use Rattle.package_target.proofs.Resolution.string_target.Goals as goal

pub returns-clause-result_after : goal.returns-clause-result_after
returns-clause-result_after c q d s a h =
    let m = c.args.self.now.manifest.now in
    let e = c.string_at-text.ensures ∙ text_read _ _ (search rules) ∙ string_is h in
    c.text_target.ensures.result_after m q a (rw e (text_short h)) (string_is h ∙ sym e)
    ∙ ap (λ t. string_target q (parse_specifier t) t (context_of m c.args.c)) e

pub returns-clause-texted : goal.returns-clause-texted
returns-clause-texted c =
    let e = c.string_at-text.ensures ∙ text_read _ _ (search rules) in
    c.text_target.ensures.texted (omega (arith, ap length e, string_short c.args.self.now.manifest.now c.args.at))
