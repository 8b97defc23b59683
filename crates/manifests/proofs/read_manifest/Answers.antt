-- The manifest's path is the definition's; then the limit's end, or a reading that is noted.
use Rattle.std.proofs.Common.{◌≡◌, ◌∙◌, sym, arith}
use Rattle.definition.specs.Ask.{ret}
use Rattle.refusal.specs.declared.Refusal.TheVariants.{PathTooLong}
use Rattle.consults.proofs.Steps.{no_reading}
use Rattle.consults.proofs.Ways.{made_long, made_fits, wanted, had}
use Rattle.manifests.specs.Meaning.{manifest_in}
use Rattle.manifests.proofs.Climbs.{manifest_built, manifest_fits, done_opened, lies_in}
use Rattle.manifests.proofs.read_manifest.Goals as goal

pub returns-in_err-path-clause-done : goal.returns-in_err-path-clause-done
unfolding manifest_in
returns-in_err-path-clause-done c G =
    let (long, is) = wanted _ _ PathTooLong _ c.as_slice.ensures c.or_refuse.ensures c.in_err-path.was in
    rw (c.from_residual.ensures, is) (made_long _ (sym (c.manifest_path-path.ensures ∙ manifest_built _) ∙ long))

pub returns-then-tape-eq0-clause-done : goal.returns-then-tape-eq0-clause-done
unfolding manifest_in
returns-then-tape-eq0-clause-done c G =
    let path = had _ _ PathTooLong _ c.as_slice.ensures c.or_refuse.ensures c.in_ok-path.was in
    made_fits _ (sym (c.manifest_path-path.ensures ∙ manifest_built _) ∙ path)
    (rw c.refuse.ensures (no_reading c.if-tape-eq0.true _ ret))

pub returns-clause-done : goal.returns-clause-done
unfolding manifest_in
returns-clause-done c G =
    let path = had _ _ PathTooLong _ c.as_slice.ensures c.or_refuse.ensures c.in_ok-path.was in
    made_fits _ (sym (c.manifest_path-path.ensures ∙ manifest_built _) ∙ path)
    (done_opened G _ _ _ _ _ _ _ c.search-found.ensures.entry
    (c.opened_state.ensures _) c.contents_in.ensures c.note.ensures.value (omega arith))

pub returns-clause-fits : goal.returns-clause-fits
returns-clause-fits c _ _ =
    let path = had _ _ PathTooLong _ c.as_slice.ensures c.or_refuse.ensures c.in_ok-path.was in
    manifest_fits _ (sym (c.manifest_path-path.ensures ∙ manifest_built _) ∙ path)

pub returns-clause-lies : goal.returns-clause-lies
returns-clause-lies c o e =
    let read : c.contents_in.result ≡ o = cc in
    rw read at (lies_in _ _ _ c.contents_in.ensures)
