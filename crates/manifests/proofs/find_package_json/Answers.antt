-- A turn of the climb reads one manifest: the search ends in it, goes on above, or there is no directory left.
use Rattle.std.proofs.Common.{◌≡◌, refl, rules}
use Rattle.std.specs.Prelude.{Some}
use Rattle.manifests.specs.Meaning.{seek, or_further, Lies}
use Rattle.consults.specs.Tape.{done_bind, done_stop, done_ret}
use Rattle.manifests.proofs.find_package_json.Goals as goal

pub returns-in_err-contents-clause-done : goal.returns-in_err-contents-clause-done
unfolding seek
returns-in_err-contents-clause-done c =
    λ G. rw c.from_residual.ensures
    (c.loop-dir.invariant.1 G _ _ (rw c.in-Some.ensures.steps (done_stop _ (c.in_err-contents.ensures.done G))))

pub returns-in-Some-2-clause-done : goal.returns-in-Some-2-clause-done
unfolding seek or_further
returns-in-Some-2-clause-done c =
    λ G. c.loop-dir.invariant.1 G _ _ (rw c.in-Some.ensures.steps
    (done_bind _ (rw c.in-Some-2.is at (c.in_ok-contents.ensures.done G))
    (rw (c.of.ensures.dir, c.of.ensures.contents) done_ret)))

pub loop-dir-preserved : goal.loop-dir-preserved
unfolding seek or_further
loop-dir-preserved c = (
  search rules,
  λ G t r rest. c.loop-dir.invariant.1 G t r (rw c.in-Some.ensures.steps
      (done_bind _ (rw c.in_default.is at (c.in_ok-contents.ensures.done G)) rest)),
)

pub returns-clause-done : goal.returns-clause-done
unfolding seek
returns-clause-done c = λ G. c.loop-dir.invariant.1 G _ _ (rw c.in-None.ensures.steps.0 done_ret)

pub returns-in-Some-2-clause-lies : goal.returns-in-Some-2-clause-lies
returns-in-Some-2-clause-lies c o e =
    let found : Some c.of.result ≡ o = cc in
    let read : Lies c.args.l.now c.in-Some-2.contents.now =
    rw c.in-Some-2.is at (c.in_ok-contents.ensures.lies _ refl) in
    rw (← found, c.of.ensures.contents) read
