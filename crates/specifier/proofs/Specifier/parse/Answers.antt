-- The cuts are those of the definition; the path is escaped where a "#" stands before the fragment.
use Rattle.std.proofs.Common.{◌∙◌, true, false, sym, arith}
use borrow.Author.Tests.{lt-ltb, le-ltb, eqb-true, eqb-false}
use Rattle.laws.specs.TextSteps.{before_inside}
use Rattle.specifier.specs.Meaning.{meant}
use Rattle.specifier.proofs.Fragment.{escaped_is, body_inside}
use Rattle.specifier.proofs.Parsed.{parsed_none, parsed_some}
use Rattle.specifier.proofs.Specifier.parse.Goals as goal
use Rattle.specifier.proofs.Specifier.parse.Goals.{then-hash-body, else-hash-body}

pub split_at-requires : goal.split_at-requires
split_at-requires c = omega (arith, c.fragment_at.ensures, body_inside c.args.s.now)

pub split_at-requires-2 : goal.split_at-requires-2
split_at-requires-2 c = omega (arith, c.find-2.ensures, before_inside)

pub returns-then-is_empty-clause-parsed : goal.returns-then-is_empty-clause-parsed
unfolding meant
returns-then-is_empty-clause-parsed c =
    parsed_none _ _ _ _ _ _ _ c.fragment_at.ensures c.split_at.ensures.front c.split_at.ensures.back c.find-2.ensures
    c.split_at-2.ensures.front c.split_at-2.ensures.back (eqb-true _ _ (sym c.is_empty.ensures ∙ c.if-is_empty.true))

pub returns-clause-parsed : goal.returns-clause-parsed
unfolding meant
returns-clause-parsed c =
    let s = c.args.s.now in
    let m = escaped_is s _ (rw c.find.ensures at c.min-hash.ensures) in
    let parsed = parsed_some _ _ _ _ _ _ _ c.fragment_at.ensures c.split_at.ensures.front c.split_at.ensures.back
    c.find-2.ensures
    c.split_at-2.ensures.front c.split_at-2.ensures.back in
    let n = eqb-false _ _ (sym c.is_empty.ensures ∙ c.if-is_empty.false) in
    elim c.if-hash-body.branch [
      | then-hash-body w ↦ rw w.path-is (parsed true (sym (lt-ltb _ _ (omega (arith, w.if-hash-body.true))) ∙ m) n)
      | else-hash-body w ↦ rw w.path-is (parsed false (sym (le-ltb _ _ (omega arith)) ∙ m) n)
    ]
