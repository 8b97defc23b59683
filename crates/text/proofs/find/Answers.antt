-- The chain gives the first place of the rest that passes its test; where the place is past the end, the rest is empty.
use Rattle.std.proofs.Common.{rules, ◌-◌, length, take, drop}
use Rattle.std.proofs.lemmas.List.{take_rest, drop_min}
use Rattle.text.proofs.Words.{first_is}
use Rattle.text.proofs.find.Goals as goal

pub returns : goal.returns
returns c =
    let s = c.args.s.now in
    let rest = take (length s - c.min.result) (drop c.min.result s) in
    rw (c.unwrap_or.ensures, first_is c.args.b rest c.position.result (search rules), take_rest s c.min.result, c.min.ensures, drop_min c.args.at s)
