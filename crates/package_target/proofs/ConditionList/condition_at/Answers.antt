-- The name is "default", or that of a condition of the settings.
use Rattle.std.proofs.Common.{drop, refl, sym, ◌∙◌, arith}
use Rattle.definition.specs.JsonAt.{name_is}
use Rattle.settings.specs.Meaning.{texts_left}
use Rattle.package_target.proofs.Places.{name_equal}
use Rattle.package_target.proofs.Conditions.{is_default, not_default, place_found, place_none}
use Rattle.package_target.proofs.ConditionList.condition_at.Goals as goal

pub returns-then-name_is-clause-by_index : goal.returns-then-name_is-clause-by_index
returns-then-name_is-clause-by_index c k s h =
    is_default k _
    (sym (name_equal c.args.m.now _ c.args.at c.name_is.result c.name_is.ensures k s h) ∙ c.if-name_is.true)

pub returns-in_err-setting_at-clause-by_index : goal.returns-in_err-setting_at-clause-by_index
returns-in_err-setting_at-clause-by_index c k s h =
    let m = c.args.m.now in
    let at = c.args.at in
    let other = not_default k (texts_left c.args.self.now.texts)
    (sym (name_equal m _ at c.name_is.result c.name_is.ensures k s h) ∙ c.if-name_is.false) in
    let none = place_none k (λ x. name_is x (drop at m)) (λ x. name_equal m x at _ refl k s h) _
    c.in_err-setting_at.ensures in
    rw c.from_residual.ensures (omega (arith, other, none))

pub returns-clause-by_index : goal.returns-clause-by_index
returns-clause-by_index c k s h =
    let m = c.args.m.now in
    let at = c.args.at in
    let other = not_default k (texts_left c.args.self.now.texts)
    (sym (name_equal m _ at c.name_is.result c.name_is.ensures k s h) ∙ c.if-name_is.false) in
    let found = place_found k (λ x. name_is x (drop at m)) (λ x. name_equal m x at _ refl k s h) _ _
    c.in_ok-setting_at.ensures in
    omega (arith, other, found.0)
