-- The first bytes of work are the buffer.
use Rattle.std.proofs.Common.{rules, sym}
use Rattle.package_target.proofs.package_target_resolve.Goals as goal

pub returns-clause-result_after : goal.returns-clause-result_after
returns-clause-result_after c q j l a h =
    let e = c.target.ensures.result_after q j a h in let p = sym c.target.ensures.same.path in search (rules, e, p)

pub returns-clause-texted : goal.returns-clause-texted
returns-clause-texted c =
    let e = c.target.ensures.texted in let p = sym c.target.ensures.same.path in search (rules, e, p)
