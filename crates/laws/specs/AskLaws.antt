-- ROUTINES IN A ROW: the answer and the list of `t >>= f` from those of t and of f.
use Rattle.std.specs.Prelude.{◌≡◌, List, [], ◌++◌}
use Rattle.std.proofs.Math.Path.{refl}
use Rattle.definition.specs.Listing.{Entry, no_entry, directory_entry, file_entry}
use Rattle.definition.specs.Ask.{Listing, Consult, Step, go, stop, Ask, ret, end, ask, read, state_of, contents_of, ◌>>=◌, answer, log, viewed}

module _ {E M : Type 0} where
  -- what comes after a routine: nothing once the lookup has ended
  unfoldable pub then_answer : {A B : Type 0} → Listing M → Step E A → (A → Ask E M B) → Step E B
  then_answer L (go a) f = answer L (f a)
  then_answer L (stop e) f = stop e

  unfoldable pub then_log : {A B : Type 0} → Listing M → Step E A → (A → Ask E M B) → List Consult
  then_log L (go a) f = log L (f a)
  then_log L (stop e) f = []

  pub answer_bind : {A B : Type 0} (L : Listing M) (t : Ask E M A) (f : A → Ask E M B) → answer L (t >>= f) ≡ then_answer L (answer L t) f
  unfolding ◌>>=◌ answer then_answer
  answer_bind L (ret a) f = refl
  answer_bind L (end e) f = refl
  answer_bind L (ask p k) f = answer_bind L (k (state_of (L p))) f
  answer_bind L (read p k) f = answer_bind L (k (contents_of (L p))) f

  pub log_bind : {A B : Type 0} (L : Listing M) (t : Ask E M A) (f : A → Ask E M B) → log L (t >>= f) ≡ log L t ++ then_log L (answer L t) f
  unfolding ◌>>=◌ answer log then_log
  log_bind L (ret a) f = refl
  log_bind L (end e) f = refl
  log_bind L (ask p k) f = cc (log_bind L (k (state_of (L p))) f)
  log_bind L (read p k) f = cc (log_bind L (k (contents_of (L p))) f)

pub state_viewed : {N M : Type 0} (view : N → M) (e : Entry N) → state_of (viewed view e) ≡ state_of e
unfolding state_of viewed
state_viewed view no_entry = refl
state_viewed view directory_entry = refl
state_viewed view (file_entry b) = refl
