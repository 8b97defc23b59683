-- Each outcome ends the lookup as the definition's does; before that the two refusals.
use Rattle.definition.specs.Exports.{Empty, InvalidPackageTarget, PackagePathNotExported, InvalidPackageConfig, InvalidPackageConfigDirectory, failure_texts, path_not_exported}
use Rattle.definition.specs.Manifest.{path_too_long, resolved_to}
use Rattle.definition.specs.Walk.{given}
use Rattle.refusal.specs.declared.Refusal.TheVariants.{WorkTooShort, PathTooLong}
use Rattle.consults.specs.Ends.{failure_of, refusal_of}
use Rattle.consults.specs.Tape.{done_ret}
use Rattle.consults.proofs.Steps.{done_refuse, ends_failed}
use Rattle.consults.proofs.Ways.{wanted}
use Rattle.directory.proofs.Manifests.{ending_named}
use Rattle.directory.proofs.Rooms.{is_done, is_refused_lem, no_room}
use Rattle.exports_ending.proofs.Failures.{done_failed, within, named, over_long}
use Rattle.exports_ending.proofs.exports_ending.Goals as goal

pub returns-in_err-work-clause-done : goal.returns-in_err-work-clause-done
returns-in_err-work-clause-done c L x =
    let (short, is) = wanted _ _ WorkTooShort _ c.first_chunk_mut.ensures.cases c.or_refuse.ensures c.in_err-work.was in
    rw (c.from_residual.ensures, is) (is_refused_lem _ WorkTooShort (no_room PathTooLong 2048 _ _ short))

pub returns-then-not-manifest_fits-clause-done : goal.returns-then-not-manifest_fits-clause-done
returns-then-not-manifest_fits-clause-done c L x =
    let beyond = over_long _ _ c.manifest_fits.ensures _ _ _ c.first_chunk_mut.ensures.cases c.or_refuse.ensures in
    rw c.refuse.ensures (is_refused_lem _ PathTooLong (beyond c.in_ok-work.was c.if-not-manifest_fits.true))

pub returns-in-Found-clause-done : goal.returns-in-Found-clause-done
unfolding given resolved_to path_not_exported failure_of failure_texts refusal_of
returns-in-Found-clause-done c L x =
    let fits = named _ _ c.manifest_fits.ensures _ _ _ c.first_chunk_mut.ensures.cases c.or_refuse.ensures in
    rw c.in-Found.is (is_done _ (fits c.in_ok-work.was c.if-not-manifest_fits.false) done_ret)

pub returns-in-Nothing-clause-done : goal.returns-in-Nothing-clause-done
unfolding given resolved_to path_not_exported failure_of failure_texts refusal_of
returns-in-Nothing-clause-done c L x =
    let fits = named _ _ c.manifest_fits.ensures _ _ _ c.first_chunk_mut.ensures.cases c.or_refuse.ensures in
    rw c.in-Nothing.is
    (is_done _ (fits c.in_ok-work.was c.if-not-manifest_fits.false)
    (done_failed (ends_failed (PackagePathNotExported _ _))
    c.not_exported-ending.ensures.finishes))

pub returns-in-Empty-clause-done : goal.returns-in-Empty-clause-done
unfolding given resolved_to path_not_exported failure_of failure_texts refusal_of
returns-in-Empty-clause-done c L x =
    let fits = named _ _ c.manifest_fits.ensures _ _ _ c.first_chunk_mut.ensures.cases c.or_refuse.ensures in
    rw c.in-Empty.is
    (is_done _ (fits c.in_ok-work.was c.if-not-manifest_fits.false)
    (done_failed (ends_failed (Empty _))
    (record { ending = c.finish-ending.ensures.ending; texts = c.finish-ending.ensures.texts })))

pub returns-in-InvalidTarget-clause-done : goal.returns-in-InvalidTarget-clause-done
unfolding given resolved_to path_not_exported failure_of failure_texts refusal_of
returns-in-InvalidTarget-clause-done c L x =
    let fits = named _ _ c.manifest_fits.ensures _ _ _ c.first_chunk_mut.ensures.cases c.or_refuse.ensures in
    rw (c.in-InvalidTarget.is, ← c.key_text-key.ensures)
    (is_done _ (fits c.in_ok-work.was c.if-not-manifest_fits.false)
    (done_failed (ends_failed (InvalidPackageTarget _ _ _))
    c.invalid_target-ending.ensures.finishes))

pub returns-in-NotExportedMatch-clause-done : goal.returns-in-NotExportedMatch-clause-done
unfolding given resolved_to path_not_exported failure_of failure_texts refusal_of
returns-in-NotExportedMatch-clause-done c L x =
    let fits = named _ _ c.manifest_fits.ensures _ _ _ c.first_chunk_mut.ensures.cases c.or_refuse.ensures in
    rw (c.in-NotExportedMatch.is, ← c.match_text.ensures)
    (is_done _ (fits c.in_ok-work.was c.if-not-manifest_fits.false)
    (done_failed (ends_failed (PackagePathNotExported _ _))
    c.not_exported-ending-in-NotExportedMatch.ensures.finishes))

pub returns-in-NotExported-clause-done : goal.returns-in-NotExported-clause-done
unfolding given resolved_to path_not_exported failure_of failure_texts refusal_of
returns-in-NotExported-clause-done c L x =
    let fits = named _ _ c.manifest_fits.ensures _ _ _ c.first_chunk_mut.ensures.cases c.or_refuse.ensures in
    rw (c.in-NotExported.is, ← c.key_text-key-in-NotExported.ensures)
    (is_done _ (fits c.in_ok-work.was c.if-not-manifest_fits.false)
    (done_failed (ends_failed (PackagePathNotExported _ _))
    c.not_exported-ending-in-NotExported.ensures.finishes))

pub returns-in-ConfigMixed-clause-done : goal.returns-in-ConfigMixed-clause-done
unfolding given resolved_to path_not_exported failure_of failure_texts refusal_of
returns-in-ConfigMixed-clause-done c L x =
    let fits = named _ _ c.manifest_fits.ensures _ _ _ c.first_chunk_mut.ensures.cases c.or_refuse.ensures in
    rw c.in-ConfigMixed.is
    (is_done _ (fits c.in_ok-work.was c.if-not-manifest_fits.false)
    (done_failed (ends_failed (InvalidPackageConfig _))
    (ending_named _ _ (within _ _ c.manifest_fits.ensures c.if-not-manifest_fits.false)
    c.manifest_ending-ending.ensures.finishes)))

pub returns-in-ConfigDirectory-clause-done : goal.returns-in-ConfigDirectory-clause-done
unfolding given resolved_to path_not_exported failure_of failure_texts refusal_of
returns-in-ConfigDirectory-clause-done c L x =
    let fits = named _ _ c.manifest_fits.ensures _ _ _ c.first_chunk_mut.ensures.cases c.or_refuse.ensures in
    rw c.in-ConfigDirectory.is
    (is_done _ (fits c.in_ok-work.was c.if-not-manifest_fits.false)
    (done_failed (ends_failed (InvalidPackageConfigDirectory _))
    (ending_named _ _ (within _ _ c.manifest_fits.ensures c.if-not-manifest_fits.false)
    c.manifest_ending-ending-in-ConfigDirectory.ensures.finishes)))

pub returns-in-OverLong-clause-done : goal.returns-in-OverLong-clause-done
unfolding given resolved_to path_not_exported failure_of failure_texts refusal_of
returns-in-OverLong-clause-done c L x =
    let fits = named _ _ c.manifest_fits.ensures _ _ _ c.first_chunk_mut.ensures.cases c.or_refuse.ensures in
    rw (c.in-OverLong.is, c.refuse-ending.ensures)
    (is_done _ (fits c.in_ok-work.was c.if-not-manifest_fits.false)
    (done_refuse path_too_long _))
