-- The lengths of the kind's texts, and the bytes behind those of the texts before them.
use Rattle.std.proofs.Common.{◌≡◌, ◌+◌, ◌≤◌, length, take, drop, arith, length-drop}
use Rattle.std.proofs.lemmas.List.{take_all}
use Rattle.definition.specs.Settings.{sum}
use Rattle.settings.proofs.Steps.{sum_is, kind_pieces}
use Rattle.settings.proofs.texts.Goals as goal

pub returns : goal.returns
returns c =
    let s = c.args.s.now in
    let n = c.number-k.ensures in
    let b = c.count_before-before in
    let all = c.count_before-all in
    let start = 6 + all.result + c.total.result in
    let e : start ≡ 6 + all.result + sum (take b.result (take all.result (drop 6 s))) =
    rw (c.total.ensures.is, c.part.ensures, c.part-lengths.ensures, sum_is) in
    let whole : length (drop start s) ≤ length s = omega (arith, length-drop start s) in
    let rest = take_all (length s) (drop start s) whole in
    rw (c.part-2.ensures, c.part-3.ensures, rest, c.part-lengths.ensures, ← n.is)
    (kind_pieces s _ _ _ _ start c.byte.ensures.is b.ensures.is all.ensures.is e)
