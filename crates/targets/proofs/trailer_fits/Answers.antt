-- There is room, or there is none.
use Rattle.std.proofs.Common.{sym, ◌∙◌}
use borrow.Author.Tests.{eqb-false, lt-leb}
use Rattle.targets.proofs.Keys.{fits_short, fits_end}
use Rattle.targets.proofs.trailer_fits.Goals as goal

pub returns-then-key-match_key : goal.returns-then-key-match_key
returns-then-key-match_key c =
    c.ends_with.ensures
    ∙ fits_end c.args.match_key.now c.args.key.now c.args.trailer.now
    (eqb-false _ _ (sym c.if-is_empty.ensures)) c.if-key-match_key.true

pub returns-else-key-match_key : goal.returns-else-key-match_key
returns-else-key-match_key c =
    lt-leb _ _ c.if-key-match_key.false
    ∙ fits_short c.args.match_key.now c.args.key.now c.args.trailer.now
    (eqb-false _ _ (sym c.if-is_empty.ensures)) c.if-key-match_key.false
