-- A subpath that begins with "." is copied, and any other is copied behind one.
use mathlib.Core.Path.{sym, ◌∙◌, ap}
use native.Mathlib.Omega.{arith}
use lib.ListN.{length}
use Rattle.package_name.proofs.Parts.{dotted, undotted, overwrite_front}
use Rattle.definition.specs.Text.{overwrite}
use Rattle.package_name.proofs.dot_subpath.Goals as goal

pub returns-then-starts_with : goal.returns-then-starts_with
returns-then-starts_with c =
    let a = c.args in
    let e = dotted a.s.now (sym c.starts_with.ensures ∙ c.if-starts_with.true) in
    (sym (ap length e), c.copy_at.ensures ∙ ap (λ t. overwrite 0 t a.out.now) (sym e))

pub returns : goal.returns
returns c =
    let a = c.args in
    let e = undotted a.s.now (sym c.starts_with.ensures ∙ c.if-starts_with.false) in
    (omega (arith, ap length e), c.copy_at-3.ensures ∙ ap (overwrite 1 a.s.now) c.copy_at-2.ensures ∙ overwrite_front 46 a.s.now a.out.now ∙ ap (λ t. overwrite 0 t a.out.now) (sym e))
