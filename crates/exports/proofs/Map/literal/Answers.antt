-- A match key with a star is no literal key.
use Rattle.std.proofs.Common.{sym}
use Rattle.definition.specs.Exports.{entries}
use Rattle.exports.proofs.Selections.{get_finds, literal_star, literal_get}
use Rattle.exports.proofs.Map.literal.Goals as goal

pub returns-then-contains : goal.returns-then-contains
returns-then-contains c ms h =
    literal_star c.args.self.manifest.now c.args.match_key.now (entries ms) (sym c.if-contains.ensures)

pub returns : goal.returns
returns c ms h =
    literal_get c.args.self.manifest.now c.args.match_key.now (entries ms) (sym c.if-contains.ensures) c.get.result
    (get_finds c.args.self.manifest.now c.args.self.at c.get.result c.args.match_key.now c.get.ensures 14 ms h)
