-- The passes' answers, put together in order: a path that is too deep is found by the pass over the order, and told
-- apart after it.
use Rattle.std.proofs.Common.{◌≡◌, Bool, List, [], ◌∷◌, sym, ◌∙◌, refl, rules, tests}
use Rattle.std.specs.List.{list_all}
use Rattle.std.proofs.lemmas.Iterator.Consumers.{YieldsList-from_first}
use Rattle.std.proofs.lemmas.Iterator.Search.{all_from_yields_List}
use Rattle.definition.specs.Text.{all}
use Rattle.definition.specs.Listing.{Row, rows, passes32, no_directory_manifest}
use Rattle.laws.specs.ListingOrder.{passes_30, passes_31, fails_31, sized, shallow}
use Rattle.listing_check.specs.Meaning.{row_of, rows_left, verdict}
use Rattle.listing_check.proofs.check.Goals as goal
use Rattle.listing_check.proofs.check.Goals.{then-not-sizes-via-then-not-sizes}
use Rattle.listing_check.proofs.check.Goals.{then-not-sizes-via-else-not-sizes+then-not-all}

all_is : (rule : Row → Bool) (rs : List Row) → list_all rule rs ≡ all rule rs
unfolding all
all_is rule [] = refl
all_is rule (r ∷ rs) = rw (all_is rule rs)

told : (rule : Row → Bool) (rs : List Row) {r b : Bool} → r ≡ list_all rule rs → r ≡ b → all rule rs ≡ b
told rule rs h e = sym (h ∙ all_is rule rs) ∙ e

pub returns-then-not-sizes : goal.returns-then-not-sizes
unfolding verdict
returns-then-not-sizes c =
    let l = c.args.l.now in
    let s = c.sizes.ensures in
    elim c.then-not-sizes.branch [
      | then-not-sizes-via-then-not-sizes w ↦ rw (passes_30 l (sym s ∙ w.if-not-sizes.true) refl refl)
      | then-not-sizes-via-else-not-sizes+then-not-all w ↦
          let e = told sized (rows l) (all_from_yields_List sized w.all.new.self _ w.all.result w.all.ensures.ran
          (YieldsList-from_first row_of rows_left {s = w.new.result} _ w.new.ensures)
          (λ x b q k. search (rules, tests))) w.if-not-all.true in
          rw (passes_30 l (sym s ∙ w.if-not-sizes.false) e refl)
    ]

pub ordered-requires-clause-sized : goal.ordered-requires-clause-sized
ordered-requires-clause-sized c =
    told sized (rows c.args.l.now) (all_from_yields_List sized c.all.new.self _ c.all.result c.all.ensures.ran
    (YieldsList-from_first row_of rows_left {s = c.new.result} _ c.new.ensures)
    (λ x b q k. search (rules, tests))) c.if-not-all.false

pub returns-then-not-all-2 : goal.returns-then-not-all-2
unfolding verdict shallow
returns-then-not-all-2 c =
    let l = c.args.l.now in
    let s = sym c.sizes.ensures ∙ c.if-not-sizes.false in
    let e = told sized (rows l) (all_from_yields_List sized c.all.new.self _ c.all.result c.all.ensures.ran
    (YieldsList-from_first row_of rows_left {s = c.new.result} _ c.new.ensures)
    (λ x b q k. search (rules, tests))) c.if-not-all.false in
    let d = told shallow (rows l) (all_from_yields_List shallow c.all-then-not-ordered.new.self _
    c.all-then-not-ordered.result c.all-then-not-ordered.ensures.ran (YieldsList-from_first row_of rows_left {s =
    c.new-then-not-ordered.result} _ c.new-then-not-ordered.ensures)
    (λ x b q k. search (rules, tests))) c.if-not-all-2.true in
    rw (passes_30 l s e d)

pub returns-then-not-ordered : goal.returns-then-not-ordered
unfolding verdict shallow
returns-then-not-ordered c =
    let l = c.args.l.now in
    let s = sym c.sizes.ensures ∙ c.if-not-sizes.false in
    let e = told sized (rows l) (all_from_yields_List sized c.all.new.self _ c.all.result c.all.ensures.ran
    (YieldsList-from_first row_of rows_left {s = c.new.result} _ c.new.ensures)
    (λ x b q k. search (rules, tests))) c.if-not-all.false in
    let d = told shallow (rows l) (all_from_yields_List shallow c.all-then-not-ordered.new.self _
    c.all-then-not-ordered.result c.all-then-not-ordered.ensures.ran (YieldsList-from_first row_of rows_left {s =
    c.new-then-not-ordered.result} _ c.new-then-not-ordered.ensures)
    (λ x b q k. search (rules, tests))) c.if-not-all-2.false in
    rw (passes_30 l s e d, fails_31 l (sym c.ordered.ensures ∙ c.if-not-ordered.true) d)

pub returns-then-not-all-3 : goal.returns-then-not-all-3
unfolding verdict passes32 no_directory_manifest
returns-then-not-all-3 c =
    let l = c.args.l.now in
    let s = sym c.sizes.ensures ∙ c.if-not-sizes.false in
    let e = told sized (rows l) (all_from_yields_List sized c.all.new.self _ c.all.result c.all.ensures.ran
    (YieldsList-from_first row_of rows_left {s = c.new.result} _ c.new.ensures)
    (λ x b q k. search (rules, tests))) c.if-not-all.false in
    let o = passes_31 l (sym c.ordered.ensures ∙ c.if-not-ordered.false) in
    let m = told no_directory_manifest (rows l) (all_from_yields_List no_directory_manifest c.all-2.new.self _
    c.all-2.result c.all-2.ensures.ran (YieldsList-from_first row_of rows_left {s =
    c.new-2.result} _ c.new-2.ensures)
    (λ x b q k. search (rules, tests))) c.if-not-all-3.true in
    rw (passes_30 l s e o.1, o.0, m)

pub returns : goal.returns
unfolding verdict passes32 no_directory_manifest
returns c =
    let l = c.args.l.now in
    let s = sym c.sizes.ensures ∙ c.if-not-sizes.false in
    let e = told sized (rows l) (all_from_yields_List sized c.all.new.self _ c.all.result c.all.ensures.ran
    (YieldsList-from_first row_of rows_left {s = c.new.result} _ c.new.ensures)
    (λ x b q k. search (rules, tests))) c.if-not-all.false in
    let o = passes_31 l (sym c.ordered.ensures ∙ c.if-not-ordered.false) in
    let m = told no_directory_manifest (rows l) (all_from_yields_List no_directory_manifest c.all-2.new.self _
    c.all-2.result c.all-2.ensures.ran (YieldsList-from_first row_of rows_left {s =
    c.new-2.result} _ c.new-2.ensures)
    (λ x b q k. search (rules, tests))) c.if-not-all-3.false in
    rw (passes_30 l s e o.1, o.0, m)
