-- The path was built, or it is over the limit.
use mathlib.Core.Path.{◌∙◌}
use Rattle.manifests.proofs.Climbs.{manifest_built}
use Rattle.directory.proofs.Manifests.{ending_long, ending_fits}
use Rattle.directory.proofs.manifest_ending.Goals as goal

pub returns-in_default-clause-finishes : goal.returns-in_default-clause-finishes
returns-in_default-clause-finishes c =
    ending_long _ (c.manifest_path-path.ensures ∙ manifest_built _) _ c.in_default.ensures c.refuse.ensures

pub returns-clause-finishes : goal.returns-clause-finishes
returns-clause-finishes c =
    let f = c.finish.ensures in
    ending_fits _ (c.manifest_path-path.ensures ∙ manifest_built _) c.in-Some.ensures
    (record { ending = f.ending; texts = f.texts })
