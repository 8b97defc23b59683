-- Within the limit of a string, and before the end.
use mathlib.Core.Path.{◌∙◌, ap}
use borrow.Author.Tests.{tests}
use borrow.Author.Rules.{rules}
use Rattle.std.specs.Prelude.{not}
use Rattle.std.specs.List.{prefix_len}
use Rattle.std.proofs.lemmas.Iterator.{YieldsList-from_slice}
use Rattle.std.proofs.lemmas.Iterator.Search.{position_from_yields_List}
use Rattle.json_text.specs.Decoded.{is_plain}
use Rattle.json_text.proofs.Positions.{position_else, until_failing}
use Rattle.json_text.proofs.Strings.{begun}
use Rattle.json_text.proofs.ascii.Goals as goal

pub returns : goal.returns
returns c =
    let place = position_from_yields_List (λ b. not (is_plain b)) _ _ c.position.result c.position.ensures.ran (YieldsList-from_slice c.part-text.result.now c.iter.ensures.rest) (λ x b q k. search (rules, tests)) in
    begun c.args.m.now c.args.at _ (c.unwrap_or.ensures ∙ position_else (λ b. not (is_plain b)) c.part-text.result.now place ∙ until_failing is_plain c.part-text.result.now ∙ ap (prefix_len is_plain) c.part-text.ensures)
