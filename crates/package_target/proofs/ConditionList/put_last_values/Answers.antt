-- One member more, or none is left.
use Rattle.std.proofs.Common.{◌≡◌, length, unwrap_or, sym, ◌∙◌, ap, arith, rules}
use Rattle.std.proofs.lemmas.List.{set_past}
use Rattle.package_target.proofs.Conditions.{place_written, places_size}
use Rattle.package_target.proofs.Walks.{walk_begin}
use Rattle.package_target.proofs.Gathering.{gather_begin, gather_on, gather_end}
use Rattle.package_target.proofs.ConditionList.put_last_values.Goals as goal

pub loop-member-init : goal.loop-member-init
loop-member-init c d ms h =
    let start = c.members-member-items.ensures in
    rw c.into_iter-member-iterator.ensures.into_iter_gives
    (gather_begin c.args.m.now d _ _ _ ms (walk_begin _ _ d _ ms start.manifest start.are h))

pub loop-member-preserved-in-Some-condition_at : goal.loop-member-preserved-in-Some-condition_at
loop-member-preserved-in-Some-condition_at c d ms h =
    let end = length c.args.m.now in
    gather_on (c.loop-member.invariant d ms h)
    (places_size end c.args.values.now (search rules)) c.in-Some.ensures.steps _
    (λ k s v e is inside. let put : c.unwrap_or.result ≡ v = c.unwrap_or.ensures ∙ ap (λ o. unwrap_or o end) is in
    rw (put, c.in-Some-condition_at.ensures.by_index k s e) (place_written end c.loop-member.values _ v inside))

pub loop-member-preserved : goal.loop-member-preserved
loop-member-preserved c d ms h =
    let end = length c.args.m.now in
    let g = c.loop-member.invariant d ms h in
    let size = places_size end c.args.values.now (search rules) in
    gather_on g size c.in-Some.ensures.steps _
    (λ k s v e is inside. sym (set_past _ _ _ (omega (arith, g.size, size, c.in_default.ensures.by_index k s e))))

pub returns : goal.returns
returns c d ms h = gather_end (c.loop-member.invariant d ms h) c.in-None.ensures.steps
