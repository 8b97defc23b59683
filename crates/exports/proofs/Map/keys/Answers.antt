-- One key more, or none is left.
use Rattle.std.proofs.Common.{◌∙◌, ap}
use Rattle.targets.specs.Contexts.{read_text}
use Rattle.exports.specs.Chosen.{a_key}
use Rattle.exports.proofs.Objects.{keyed_start, keyed_on, keyed_end}
use Rattle.exports.proofs.Map.keys.Goals as goal

pub loop-member-init : goal.loop-member-init
loop-member-init c ms h =
    let start = c.members-member-items.ensures in
    rw c.into_iter-member-iterator.ensures.into_iter_gives
    (keyed_start c.args.self.manifest.now c.args.self.at ms _ start.manifest start.are
    c.default-keys.result c.default-keys.ensures h)

pub loop-member-preserved : goal.loop-member-preserved
loop-member-preserved c ms h =
    keyed_on (c.loop-member.invariant ms h) c.in-Some.ensures.steps _
    (λ k r q. c.of.ensures ∙ ap a_key (c.key.ensures ∙ ap read_text q)) _ c.or-keys.ensures

pub returns : goal.returns
returns c ms h = keyed_end (c.loop-member.invariant ms h) c.in-None.ensures.steps
