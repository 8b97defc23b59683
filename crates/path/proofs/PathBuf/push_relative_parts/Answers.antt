-- One part is pushed, and the rest is left, with room for it.
use Rattle.std.proofs.Common.{◌∙◌, rules}
use borrow.Author.Tests.{tests}
use Rattle.std.proofs.lemmas.List.{length_push}
use Rattle.path.proofs.Parts.{turn_part, turn_end, going_start, going_more, going_last}
use Rattle.path.proofs.PathBuf.push_relative_parts.Goals as goal

pub loop-part-init : goal.loop-part-init
loop-part-init c = λ r. going_start r.text _ _ r.is r.fits

pub loop-part-preserved : goal.loop-part-preserved
loop-part-preserved c =
    let t = turn_part _ _ c.args.sub.now (cc) (cc) (cc) (λ x b q k. search (rules, tests)) c.loop-part.yielded _
    c.loop-part.yielded_by _ _ c.next.ensures.steps
    c.in-Some.part c.in-Some.is in
    λ r. rw (length_push c.loop-part.yielded c.in-Some.part)
    (going_more r.text _ _ _ (c.loop-part.invariant r) _ _ t c.push_or_keep.ensures)

pub returns : goal.returns
returns c =
    let t = turn_end _ _ c.args.sub.now (cc) (cc) (cc) (λ x b q k. search (rules, tests)) c.loop-part.yielded _
    c.loop-part.yielded_by _ _ c.next.ensures.steps c.in-None.is in
    let r = c.requires in
    going_last r.text _ c.args.sub.now _ (c.loop-part.invariant r) t ∙ rw r.is
