-- A manifest is sought, and then judged.
use Rattle.std.proofs.Common.{◌≡◌, refl}
use Rattle.std.specs.Prelude.{Some}
use Rattle.manifests.specs.Meaning.{Lies}
use Rattle.directory.proofs.Manifests.{nearest_none, nearest_found, nearest_stop}
use Rattle.directory.proofs.scope.Goals as goal

pub returns-in_err-near-clause-done : goal.returns-in_err-near-clause-done
returns-in_err-near-clause-done c G = rw c.from_residual.ensures (nearest_stop G _ _ (c.in_err-near.ensures.done G))

pub returns-in_default-clause-done : goal.returns-in_default-clause-done
returns-in_default-clause-done c G = nearest_none G _ (rw c.in_default.is at (c.in_ok-near.ensures.done G))

pub returns-in_err-package-clause-done : goal.returns-in_err-package-clause-done
returns-in_err-package-clause-done c G =
    rw c.from_residual-in_err-package.ensures
    (nearest_found G _ _ (rw c.in-Some.is at (c.in_ok-near.ensures.done G)) (c.in_err-package.ensures.done _ G))

pub returns-clause-done : goal.returns-clause-done
returns-clause-done c G =
    nearest_found G _ _ (rw c.in-Some.is at (c.in_ok-near.ensures.done G)) (c.in_ok-package.ensures.done _ G)

pub returns-clause-lies : goal.returns-clause-lies
returns-clause-lies c o e =
    let kept : Some c.in_ok-package.package ≡ o = cc in
    let near : Lies c.args.l.now c.in-Some.near.contents.now =
    rw c.in-Some.is at (c.in_ok-near.ensures.lies _ refl) in
    rw (← kept, c.in_ok-package.ensures.kept _ refl) near
