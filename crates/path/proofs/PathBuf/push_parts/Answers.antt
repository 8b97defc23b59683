-- One part is pushed, and the rest is left.
use Rattle.std.proofs.Common.{◌∙◌, rules}
use borrow.Author.Tests.{tests}
use Rattle.std.proofs.lemmas.List.{length_push}
use Rattle.path.specs.Meaning.{path_of}
use Rattle.path.proofs.Parts.{all_parts, turn_part, turn_end, parts_next, parts_end, pushed_more, pushed_all}
use Rattle.path.proofs.PathBuf.push_parts.Goals as goal

pub loop-part-init : goal.loop-part-init
loop-part-init c = rw (all_parts c.args.sub.now)

pub loop-part-preserved : goal.loop-part-preserved
loop-part-preserved c =
    let t = turn_part _ _ c.args.sub.now (cc) (cc) (cc) (λ x b q k. search (rules, tests)) c.loop-part.yielded _
    c.loop-part.yielded_by _ _ c.next.ensures.steps
    c.in-Some.part c.in-Some.is in
    let e = parts_next c.args.sub.now _ _ t in
    rw (length_push c.loop-part.yielded c.in-Some.part)
    (pushed_more (path_of c.loop-part.self) _ _ _ c.push_component.ensures ∙ rw (← e) c.loop-part.invariant)

pub returns : goal.returns
returns c =
    let t = turn_end _ _ c.args.sub.now (cc) (cc) (cc) (λ x b q k. search (rules, tests)) c.loop-part.yielded _
    c.loop-part.yielded_by _ _ c.next.ensures.steps c.in-None.is in
    pushed_all (path_of c.loop-part.self) ∙ rw (parts_end c.args.sub.now _ t) at c.loop-part.invariant
