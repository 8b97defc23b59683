-- An entry that is passed over has another path, or does not lie within the bytes.
use Rattle.std.proofs.Common.{refl, arith}
use Rattle.listing.proofs.pass_others.Goals as goal

pub loop-spot-init : goal.loop-spot-init
loop-spot-init c = ((refl, refl), c.requires.0, λ m. m)

pub end-requires : goal.end-requires
end-requires c = omega (arith, c.loop-spot.invariant.0.1, c.loop-spot-test.true, c.requires.1)
