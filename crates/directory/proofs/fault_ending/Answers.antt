-- Each fault ends the lookup as `sound` does.
use Rattle.directory.proofs.Manifests.{ending_named, sound_malformed, sound_beyond}
use Rattle.directory.proofs.fault_ending.Goals as goal

pub returns-in-Malformed-clause-done : goal.returns-in-Malformed-clause-done
returns-in-Malformed-clause-done c L =
    rw c.in-Malformed.is (sound_malformed _ (ending_named _ _ c.args.near.fits c.manifest_ending.ensures.finishes))

pub returns-in-Beyond-clause-done : goal.returns-in-Beyond-clause-done
returns-in-Beyond-clause-done c L = rw (c.in-Beyond.is, c.refuse.ensures) (sound_beyond _)
