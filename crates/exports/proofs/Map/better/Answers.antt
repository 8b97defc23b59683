-- A key that matches is the better one, unless the best so far comes first.
use Rattle.std.proofs.Common.{Some, None, sym, ◌∙◌, ap}
use Rattle.definition.specs.Exports.{best_key, pattern_match}
use Rattle.targets.specs.Contexts.{read_text}
use Rattle.targets.specs.Keys.{rank_of}
use Rattle.exports.specs.Chosen.{BestOf}
use Rattle.exports.proofs.Objects.{no_match, first_match, not_before, before_best, order_gt, no_best, best_rank}
use Rattle.exports.proofs.Map.better.Goals as goal

pub returns-in_default : goal.returns-in_default
returns-in_default c o k s j h b =
    let mk = c.args.match_key.now in
    let e = c.key-name.ensures ∙ ap read_text h in
    rw (no_match mk o (record { key = k; target = j }) (c.in_default.ensures ∙ ap (pattern_match mk) e)) b

pub returns-in-None : goal.returns-in-None
returns-in-None c o k s j h b =
    let m = c.args.self.manifest.now in
    let mk = c.args.match_key.now in
    let e = c.key-name.ensures ∙ ap read_text h in
    let matched = c.in-Some.ensures ∙ ap (pattern_match mk) e in
    let old : BestOf m mk None o = rw c.in-None.is at b in
    rw (no_best m mk o old, first_match mk (record { key = k; target = j }) matched)
    (record { ranked = c.rank_of-rank.ensures ∙ ap rank_of e; behind = s; named = h; matched = sym matched })

pub returns-in-Some-best : goal.returns-in-Some-best
returns-in-Some-best c o k s j h b =
    let m = c.args.self.manifest.now in
    let mk = c.args.match_key.now in
    let e = c.key-name.ensures ∙ ap read_text h in
    let matched = c.in-Some.ensures ∙ ap (pattern_match mk) e in
    let ranked = c.rank_of-rank.ensures ∙ ap rank_of e in
    let old : BestOf m mk (Some c.in-Some-best.old) o = rw c.in-Some-best.is at b in
    let order = c.compare.ensures (best_key o) k (best_rank m mk _ o old) ranked in
    rw (before_best mk o (record { key = k; target = j }) matched order (order_gt _ _ c.if-is_gt.ensures))
    (record { ranked = ranked; behind = s; named = h; matched = sym matched })

pub returns-in-Some-2 : goal.returns-in-Some-2
returns-in-Some-2 c o k s j h b =
    let m = c.args.self.manifest.now in
    let mk = c.args.match_key.now in
    let e = c.key-name.ensures ∙ ap read_text h in
    let matched = c.in-Some.ensures ∙ ap (pattern_match mk) e in
    let ranked = c.rank_of-rank.ensures ∙ ap rank_of e in
    let old : BestOf m mk (Some c.in-Some-best.old) o = rw c.in-Some-best.is at b in
    let order = c.compare.ensures (best_key o) k (best_rank m mk _ o old) ranked in
    rw (not_before mk o (record { key = k; target = j }) matched order (order_gt _ _ c.if-is_gt.ensures)) old
