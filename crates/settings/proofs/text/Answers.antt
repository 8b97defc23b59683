-- The i-th of the texts, by the law of `nth`.
use Rattle.std.proofs.Common.{◌≡◌, ℕ, List, get_or, Bor, ap, ◌∙◌}
use Rattle.std.specs.Prelude.{Option, Some, None}
use Rattle.std.specs.List.{slice_get}
use Rattle.std.specs.Option.{option_map, unwrap_or}
use Rattle.std.proofs.lemmas.Option.{unwrap_or-slice_get}
use Rattle.std.proofs.lemmas.Iterator.Consumers.{nth_from_yields_List, YieldsList-from_first}
use Rattle.settings.specs.Meaning.{texts_left}
use Rattle.settings.proofs.text.Goals as goal

read : (o : Option (Bor (List ℕ))) (d : Bor (List ℕ)) (ts : List (List ℕ)) (i : ℕ)
    → option_map (λ (x : Bor (List ℕ)). x.now) o ≡ slice_get ts i → (unwrap_or o d).now ≡ get_or ts i d.now
read None d ts i e = ap (λ o. unwrap_or o d.now) e ∙ unwrap_or-slice_get ts i d.now
read (Some x) d ts i e = ap (λ o. unwrap_or o d.now) e ∙ unwrap_or-slice_get ts i d.now

pub returns : goal.returns
returns c =
    let texts = YieldsList-from_first (λ (x : Bor (List ℕ)). x.now) texts_left {s = c.texts.result} _ c.texts.ensures in
    let e = nth_from_yields_List c.nth.result c.nth.new.self c.args.i c.nth.ensures.ran texts in
    ap (λ (x : Bor (List ℕ)). x.now) c.unwrap_or.ensures ∙ read c.nth.result _ _ c.args.i e
