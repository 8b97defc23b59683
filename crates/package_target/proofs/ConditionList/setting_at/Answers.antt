-- The conditions are tried in order.
use Rattle.std.proofs.Common.{List, ℕ, drop, Bor, refl, rules, tests}
use Rattle.std.proofs.lemmas.Iterator.Consumers.{YieldsList-from_first}
use Rattle.std.proofs.lemmas.Iterator.Search.{position_from_yields_List}
use Rattle.definition.specs.JsonAt.{name_is}
use Rattle.settings.specs.Meaning.{texts_left}
use Rattle.package_target.proofs.ConditionList.setting_at.Goals as goal

pub returns : goal.returns
returns c =
    position_from_yields_List
    (λ x. name_is x (drop c.args.at c.args.m.now)) c.position.new.self _ c.position.result c.position.ensures.ran
    (YieldsList-from_first (λ (x : Bor (List ℕ)). x.now) texts_left {s = c.args.self.now.texts} _ refl)
    (λ x b q k. search (rules, tests))
