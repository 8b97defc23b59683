-- Where DIR/NAME is a directory its exports are loaded.
use Rattle.std.proofs.Common.{rules}
use Rattle.definition.specs.Ask.{◌>>◌}
use Rattle.definition.specs.Walk.{go_on}
use Rattle.refusal.specs.declared.Refusal.TheVariants.{Specifier}
use Rattle.consults.specs.Tape.{done_ret, done_bind, done_stop}
use Rattle.directory.proofs.Rooms.{was_done, fits}
use Rattle.modules.proofs.go_on.Goals as goal

pub returns-in_err-load_package_exports-clause-done : goal.returns-in_err-load_package_exports-clause-done
unfolding go_on ◌>>◌
returns-in_err-load_package_exports-clause-done c =
    rw (c.from_residual.ensures, c.if-not-is_dir.false)
    (done_stop _
    (was_done (fits Specifier 512 _ _ (search rules) c.args.request.short) c.in_err-load_package_exports.ensures.done))

pub returns-clause-done : goal.returns-clause-done
unfolding go_on ◌>>◌
returns-clause-done c =
    rw c.if-not-is_dir.false
    (done_bind _
    (was_done (fits Specifier 512 _ _ (search rules) c.args.request.short) c.in_ok-load_package_exports.ensures.done)
    done_ret)
