-- The match key begins with the base, and has room for the trailer behind it.
use Rattle.std.proofs.Common.{refl, sym}
use Rattle.laws.specs.TextLaws.{starts_with_length}
use Rattle.targets.proofs.Keys.{room}
use Rattle.targets.proofs.star_match.Goals as goal

pub overflow_sub-result : goal.overflow_sub-result
overflow_sub-result c = starts_with_length c.args.base.now c.args.match_key.now (sym c.if-starts_with.ensures)

pub overflow_sub-result-then-trailer_fits : goal.overflow_sub-result-then-trailer_fits
overflow_sub-result-then-trailer_fits c =
    room c.args.match_key.now c.args.key.now c.args.trailer.now c.args.base.now c.requires
    (sym c.if-starts_with.ensures) _ c.if-trailer_fits.ensures refl
