-- All the bytes from the place on are below.
use Rattle.std.proofs.Common.{◌≡◌, ◌-◌, length, take, drop, take_all, arith, length-drop}
use Rattle.listing.proofs.starts_below.Goals as goal

pub returns-then-at-l : goal.returns-then-at-l
returns-then-at-l c =
    let l = c.args.l.now in
    let at = c.args.at in
    let rest : take (length l - at) (drop at l) ≡ drop at l =
    take_all (length l - at) (drop at l) (omega (arith, length-drop at l)) in
    λ e q o. rw rest at (c.surely_below.ensures e q o)
