-- `output::fill` meets its contract, by the laws of `Endings`, `TextLengths` and `Filling`.
use mathlib.Core.Path.{◌≡◌}
use native.Mathlib.Omega.{arith}
use lib.ListN.{length}
use Rattle.definition.specs.Called.{joined, paths}
use Rattle.answer.specs.Room.{text_length}
use Rattle.output.proofs.Endings.{answer_is}
use Rattle.output.proofs.TextLengths.{length_of}
use Rattle.output.proofs.Filling.{text_done, filled}
use Rattle.output.proofs.fill.Goals as goal

pub returns-clause-written : goal.returns-clause-written
returns-clause-written c e l w g =
    let k = g.counted in
    let room = c.requires in
    let x = c.args.ending in
    let t = c.args.tape.now in
    let s : t.mark.size ≡ length (joined (paths l)) = let z = k.size in let y = room.size in omega arith in
    filled (record { answer = c.answer_of.result; consults = t.mark.count })
    t.result.now t.numbers.now t.text.now _ _ _ e l w
    (rw c.answer_of.ensures (answer_is x e k.ending)) k.count
    (text_done (text_length x) _ t.result.now _ (length_of _ e k.ending) room.result g.result c.zero_from.ensures)
    (c.finish_numbers.ensures l k.count s g.numbers)
    (text_done t.mark.size _ t.text.now _ s room.list (g.list (let y = room.size in omega arith)) c.zero_from-2.ensures)
