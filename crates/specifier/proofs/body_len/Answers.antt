-- The chain finds the first place behind a byte that is not 0 where a "#" stands, or that there is none.
use Rattle.std.proofs.Common.{rules}
use Rattle.specifier.proofs.Fragment.{body_none, body_found}
use Rattle.specifier.proofs.body_len.Goals as goal

pub returns-in-Some : goal.returns-in-Some
returns-in-Some c = body_found c.args.s.now c.in-Some.i (search rules) (search rules) (search rules) (search rules)

pub returns-in-None : goal.returns-in-None
returns-in-None c = body_none c.args.s.now (search rules)
