-- The best key is a member's, so it has a value.
use Rattle.std.proofs.Common.{refl}
use Rattle.std.proofs.Math.Option.{none}
use Rattle.definition.specs.Exports.{entries, best}
use Rattle.exports.proofs.Selections.{no_pattern, best_member, best_missed, best_selects}
use Rattle.exports.proofs.Map.pattern.Goals as goal

pub returns-in_err-best : goal.returns-in_err-best
returns-in_err-best c ms h =
    rw c.from_residual.ensures (no_pattern c.args.self.manifest.now c.args.match_key.now _ (c.in_err-best.ensures ms h))

pub returns-in_err-value : goal.returns-in_err-value
returns-in_err-value c ms h =
    let m = c.args.self.manifest.now in
    let mk = c.args.match_key.now in
    let b = best_member m mk c.in_ok-best.best ms c.args.self.at _ h (c.in_ok-best.ensures ms h)
    (λ k s q. c.in_err-value.ensures ms k s h q) in
    absurd (best_missed m mk c.in_ok-best.best (best mk none (entries ms)) b refl)

pub returns : goal.returns
returns c ms h =
    let m = c.args.self.manifest.now in
    let mk = c.args.match_key.now in
    let b = best_member m mk c.in_ok-best.best ms c.args.self.at _ h (c.in_ok-best.ensures ms h)
    (λ k s q. c.in_ok-value.ensures ms k s h q) in
    best_selects m mk c.in_ok-best.best (best mk none (entries ms)) b refl c.form_of.result c.form_of.ensures
