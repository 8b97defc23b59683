-- One of the parts between slashes is invalid, or none is.
use Rattle.std.proofs.Common.{◌∙◌, rules, eqb}
use borrow.Author.Tests.{tests}
use Rattle.std.proofs.lemmas.Iterator.Splits.{YieldsList-from_slice_split}
use Rattle.std.proofs.lemmas.Iterator.Search.{any_from_yields_List}
use Rattle.path.proofs.Parts.{any_part}
use Rattle.path.proofs.is_invalid_exports_target.Goals as goal

pub returns : goal.returns
returns c =
    any_from_yields_List _ _ _ _ c.any.ensures.ran
    (YieldsList-from_slice_split _ (λ b. eqb b 47) c.args.t.now (cc) (cc) (cc) (λ x b q k. search (rules, tests)))
    (λ x b q k. search (rules, tests)) ∙ any_part c.args.t.now
