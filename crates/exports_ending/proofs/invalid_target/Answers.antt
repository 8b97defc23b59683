-- The manifest's path fits.
use Rattle.directory.proofs.Manifests.{manifest_path, never_long}
use Rattle.exports_ending.proofs.invalid_target.Goals as goal

pub returns-in_default-clause-finishes : goal.returns-in_default-clause-finishes
returns-in_default-clause-finishes c = never_long _ c.manifest_path-path.ensures c.in_default.ensures c.requires

pub returns-clause-finishes : goal.returns-clause-finishes
returns-clause-finishes c =
    let p = manifest_path _ _ c.manifest_path-path.ensures c.in-Some.ensures c.requires in
    record { ending = rw p at c.finish.ensures.ending; texts = rw p at c.finish.ensures.texts }
