-- A refusal of the checks, or what the lookup leaves, by the laws of `output::Delivering` and `Walking`.
use mathlib.Core.Path.{refl}
use native.Mathlib.Omega.{arith}
use lib.ListN.{length}
use Rattle.lookup.specs.Meaning.{question_of}
use Rattle.output.specs.Left.{rooms_in}
use Rattle.output.proofs.Delivering.{when_refused, when_accepted}
use Rattle.lookup.proofs.Walking.{bare_done, walked, same_rooms, called_by, passed_by}
use Rattle.lookup.proofs.resolve.Goals as goal

pub returns-in-Err-clause-called : goal.returns-in-Err-clause-called
returns-in-Err-clause-called c =
    let a = c.args in
    let m = rooms_in a.tape.now (length a.work.now) in
    when_refused m 0 c.check.result _ _ _ (called_by (question_of a.question) m c.check.result (c.check.ensures m refl)) _
    c.in-Err.is (c.refuse.ensures.zeros _)

pub returns-in-Ok-clause-called : goal.returns-in-Ok-clause-called
returns-in-Ok-clause-called c =
    let a = c.args in
    let q = question_of a.question in
    let m = rooms_in a.tape.now (length a.work.now) in
    let p = passed_by q m c.check.result (c.check.ensures m refl) c.in-Ok.is in
    let b = c.requires in
    let done = rw (b.count, b.size, b.left) at (bare_done q m p (c.load_package_self_or_node_modules-ending.ensures.done (let h = p.work in omega arith) p.specifier)) in
    when_accepted m 0 c.check.result _ _ _ (called_by q m c.check.result (c.check.ensures m refl))
    c.in-Ok.is
    (same_rooms q m p _ _ _ _ _ _ _ _ done _ _ (c.deliver.ensures.done _ _ _ (walked q m p _ _ _ _ _ _ _ _ done)))
