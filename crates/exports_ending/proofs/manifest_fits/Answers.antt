-- A slash comes between, where the directory has none at its end.
use mathlib.Core.Path.{◌∙◌}
use Rattle.exports_ending.proofs.Failures.{fits_slash, fits_short}
use Rattle.exports_ending.proofs.manifest_fits.Goals as goal

pub returns-then-dir-eq2036 : goal.returns-then-dir-eq2036
returns-then-dir-eq2036 c = c.ends_with.ensures ∙ fits_slash _ c.if-dir-eq2036.true

pub returns-else-dir-eq2036 : goal.returns-else-dir-eq2036
returns-else-dir-eq2036 c = fits_short _ c.if-dir-eq2036.false
