-- A text is the next piece: what is left are the pieces of the bytes behind it.
use Rattle.std.proofs.Common.{◌≡◌, ℕ, ◌∷◌, [], List, length, take, drop, min, sym, ◌∙◌, ap, subst, rules}
use Rattle.std.specs.Iterator.{YieldsFirstRef}
use Rattle.std.proofs.lemmas.List.{take_min, drop_min, nil_from_length}
use Rattle.definition.specs.Settings.{pieces}
use Rattle.settings.specs.Meaning.{texts_left}
use Rattle.settings.proofs.TextsLeftIterator.next.Goals as goal

none_left : (ns t : List ℕ) → length ns ≡ 0 → pieces ns t ≡ []
unfolding pieces
none_left ns t e = rw (nil_from_length ns e)

one_more : (ns later t a b : List ℕ) (n l : ℕ) → ns ≡ n ∷ later → l ≡ n → a ≡ take (min l (length t)) t
    → b ≡ drop (min l (length t)) t → pieces ns t ≡ a ∷ pieces later b
unfolding pieces
one_more ns later t a b n l e f p q = rw (e, p, q, f, take_min n t, drop_min n t)

pub returns-in_err-n-clause-steps : goal.returns-in_err-n-clause-steps
returns-in_err-n-clause-steps c =
    let none = none_left _ c.args.self.now.bytes.now c.in_err-n.ensures.cases in
    subst (λ r. YieldsFirstRef texts_left c.args.self.now r c.args.self.now) (sym c.from_residual.ensures) (none, none)

pub returns-clause-steps : goal.returns-clause-steps
returns-clause-steps c =
    one_more _ _ _ _ _ _ _ c.in_ok-n.ensures.cases.0 c.from.ensures (c.split_at.ensures.front ∙ rw c.min.ensures)
    (c.split_at.ensures.back ∙ rw c.min.ensures)

pub returns-clause-goes : goal.returns-clause-goes
returns-clause-goes c =
    let shorter = ap length (returns-clause-steps c) in
    search (rules, shorter)
