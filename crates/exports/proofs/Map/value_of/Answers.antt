-- The key is read, and looked for from the object's first member on.
use Rattle.std.proofs.Common.{drop, ◌∙◌, ap}
use Rattle.definition.specs.JsonAt.{get_at}
use Rattle.targets.specs.Contexts.{read_text}
use Rattle.exports.proofs.Selections.{get_finds}
use Rattle.exports.proofs.Map.value_of.Goals as goal

pub returns : goal.returns
returns c ms k s h q =
    let m = c.args.self.manifest.now in
    let at = c.args.self.at in
    get_finds m at c.get.result k
    (c.get.ensures ∙ ap (λ t. get_at t (drop at m)) (c.key.ensures ∙ ap read_text q)) 14 ms h
