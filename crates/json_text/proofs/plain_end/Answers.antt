-- By where the first quote or backslash stands.
use mathlib.Core.Path.{refl, sym, ◌∙◌, ap}
use mathlib.Core.Bool.{◌||◌}
use Prim.Native.Nat.{◌+◌}
use lib.ListN.{get_or}
use lib.Dec.{eqb}
use borrow.Author.Tests.{tests}
use borrow.Author.Rules.{rules}
use Rattle.std.specs.Prelude.{not, unwrap_or}
use Rattle.std.proofs.lemmas.Iterator.{YieldsList-from_range}
use Rattle.std.proofs.lemmas.Iterator.Adapters.{option_map_id}
use Rattle.std.proofs.lemmas.Iterator.Search.{find_from_yields_List}
use Rattle.json_text.proofs.Positions.{first_failing}
use Rattle.json_text.proofs.Strings.{plain_len}
use Rattle.json_text.proofs.plain_end.Goals as goal

pub returns : goal.returns
returns c =
    let m = c.args.m.now in
    let place = find_from_yields_List (λ i. not (not (eqb (get_or m i 0) 34 || eqb (get_or m i 0) 92))) _ _ c.find.result c.find.ensures.ran (YieldsList-from_range c.args.from _ _ refl refl) (λ x b q k. (search (rules, tests), search (rules, tests))) in
    c.unwrap_or.ensures ∙ ap (unwrap_or c.find.result) c.max.ensures
    ∙ first_failing (λ b. not (eqb b 34 || eqb b 92)) m c.args.from _ refl _ (sym (option_map_id _) ∙ place)
    ∙ ap (λ n. c.args.from + n) (plain_len _)
