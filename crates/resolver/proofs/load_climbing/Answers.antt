-- The second walk comes where the normalised specifier leaves its package; a specifier of at most 512 bytes has one.
use Rattle.std.proofs.Common.{rules}
use Rattle.definition.specs.Specifier.{climbing}
use Rattle.definition.specs.Walk.{perhaps}
use Rattle.refusal.specs.declared.Refusal.TheVariants.{Specifier, PathTooLong}
use Rattle.consults.specs.Tape.{done_ret}
use Rattle.consults.proofs.Ways.{wanted, had}
use Rattle.directory.proofs.Rooms.{was_done, fits}
use Rattle.resolver.proofs.Lookups.{normalized_here, never_long, climbing_subpath}
use Rattle.resolver.proofs.load_climbing.Goals as goal

pub returns-then-not-may_climb-clause-done : goal.returns-then-not-may_climb-clause-done
unfolding climbing perhaps
returns-then-not-may_climb-clause-done c = rw (← c.may_climb.ensures, c.if-not-may_climb.true) done_ret

pub returns-in_err-normalized-clause-done : goal.returns-in_err-normalized-clause-done
returns-in_err-normalized-clause-done c =
    let (long, is) = wanted _ _ PathTooLong _ c.as_slice.ensures c.or_refuse.ensures c.in_err-normalized.was in
    never_long _ c.args.request.short c.normalized-built.ensures long

pub returns-then-not-climbs-clause-done : goal.returns-then-not-climbs-clause-done
unfolding climbing perhaps
returns-then-not-climbs-clause-done c =
    let fits = had _ _ PathTooLong _ c.as_slice.ensures c.or_refuse.ensures c.in_ok-normalized.was in
    let here = normalized_here _ c.args.request.short c.normalized-built.ensures fits in
    rw (← c.may_climb.ensures, c.if-not-may_climb.false, ← here, ← c.climbs.ensures, c.if-not-climbs.true) done_ret

pub returns-clause-done : goal.returns-clause-done
unfolding climbing perhaps
returns-clause-done c =
    let path = had _ _ PathTooLong _ c.as_slice.ensures c.or_refuse.ensures c.in_ok-normalized.was in
    let here = normalized_here _ c.args.request.short c.normalized-built.ensures path in
    let climbs = rw here at c.climbs.ensures in
    let short = climbing_subpath _ c.args.request.short c.climbs.result climbs c.if-not-climbs.false in
    rw (← c.may_climb.ensures, c.if-not-may_climb.false, ← here, ← c.climbs.ensures, c.if-not-climbs.false)
    (was_done
    (fits Specifier 512 _ _ (search rules) (rw (← here) at short))
    c.load_node_modules.ensures.done)
