-- One routine after another.
use Rattle.std.proofs.Common.{rules}
use Rattle.definition.specs.Ask.{◌>>◌}
use Rattle.laws.specs.FitLaws.{subpath_short}
use Rattle.refusal.specs.declared.Refusal.TheVariants.{Specifier}
use Rattle.directory.proofs.Rooms.{was_done, fits}
use Rattle.consults.specs.Tape.{done_bind, done_stop}
use Rattle.resolver.specs.Routines.{load_package}
use Rattle.resolver.proofs.load_package.Goals as goal

pub returns-in_err-load_package_self-clause-done : goal.returns-in_err-load_package_self-clause-done
unfolding load_package ◌>>◌
returns-in_err-load_package_self-clause-done c =
    let short = c.args.request.short in
    rw c.from_residual.ensures
    (done_stop _ (was_done (fits Specifier 512 _ _ (search rules) short) c.in_err-load_package_self.ensures.done))

pub returns-in_err-load_node_modules-clause-done : goal.returns-in_err-load_node_modules-clause-done
unfolding load_package ◌>>◌
returns-in_err-load_node_modules-clause-done c =
    let short = c.args.request.short in
    rw c.from_residual-in_err-load_node_modules.ensures
    (done_bind _ (was_done (fits Specifier 512 _ _ (search rules) short) c.in_ok-load_package_self.ensures.done)
    (done_stop _
    (was_done (fits Specifier 512 _ _ (search rules) (subpath_short 512 _ short))
    c.in_err-load_node_modules.ensures.done)))

pub returns-clause-done : goal.returns-clause-done
unfolding load_package ◌>>◌
returns-clause-done c =
    let short = c.args.request.short in
    done_bind _ (was_done (fits Specifier 512 _ _ (search rules) short) c.in_ok-load_package_self.ensures.done)
    (done_bind _
    (was_done (fits Specifier 512 _ _ (search rules) (subpath_short 512 _ short))
    c.in_ok-load_node_modules.ensures.done)
    c.load_climbing.ensures.done)
