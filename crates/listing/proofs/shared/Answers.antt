-- Four bytes are equal where their numbers are.
use Rattle.std.proofs.Common.{◌≡◌, ◌+◌, ◌*◌, sym, ◌∙◌, arith}
use Rattle.laws.specs.ListingOrder.{shared_start, shared_next}
use Rattle.listing.proofs.shared.Goals as goal

pub loop-k-init : goal.loop-k-init
loop-k-init c = shared_start _ _

pub loop-k-preserved : goal.loop-k-preserved
loop-k-preserved c =
    let a = c.args in
    let p = c.type_inv.p in
    let q = c.type_inv.q in
    let i = 4 * c.loop-k.k in
    let e = sym c.number_at.ensures.is ∙ (c.if-number_at.false ∙ c.number_at-in-loop-k.ensures.is) in
    let next : i + 4 ≡ 4 * (c.loop-k.k + 1) = omega arith in
    rw next at (shared_next a.p.now a.q.now i (omega arith) (omega arith) (λ n. omega (arith, p n))
    (λ n. omega (arith, q n)) e c.loop-k.invariant)
