-- The member's text is told, and is a part of the manifest or of work.
use mathlib.Core.Path.{◌∙◌, sym, ap}
use mathlib.Core.Option.{some}
use Rattle.std.proofs.Common.{rules}
use Rattle.definition.specs.JsonAt.{Told}
use Rattle.directory.proofs.Manifests.{told_field, text_there}
use Rattle.directory.proofs.package.Package.text_field.Goals as goal

pub returns-in_err-text : goal.returns-in_err-text
returns-in_err-text c =
    let read = told_field _ _ _ c.args.self.rooted c.args.work.now (search rules) in
    rw c.from_residual.ensures (ap (λ (t : Told). t.text) c.in_err-text.ensures ∙ read)

pub returns : goal.returns
returns c =
    let read = told_field _ _ _ c.args.self.rooted c.args.work.now (search rules) in
    ap some c.text_at.ensures ∙ sym (text_there _ _ c.in_ok-text.text) ∙ ap (λ (t : Told). t.text) c.in_ok-text.ensures
    ∙ read
