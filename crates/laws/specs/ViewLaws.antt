-- Agreement where a routine sees of a manifest only a view, and views are the same for related bytes.
use Rattle.std.specs.Prelude.{◌≡◌}
use Rattle.std.proofs.Math.Path.{refl, sym, ap}
use Rattle.std.proofs.Common.{◌∙◌}
use mathlib.Core.List.{Memᴰ}
use Rattle.definition.specs.Listing.{Entry, no_entry, directory_entry, file_entry}
use Rattle.definition.specs.Ask.{Listing, Consult, Ask, state_of, answer, log, viewed, seen}
use Rattle.laws.specs.AskLaws.{state_viewed}
use Rattle.definition.specs.Reordered.{Alike}
use Rattle.laws.specs.AgreeLaws.{Same, agree_answer, agree_log}

module _ {N M : Type 0} where
  module _ (view : N → M) (R : N → N → Type 0) (kept : (a b : N) → R a b → view a ≡ view b) where
    same_view : (a b : Entry N) → state_of a ≡ state_of b → ((v w : N) → a ≡ file_entry v → b ≡ file_entry w → R v w) → viewed view a ≡ viewed view b
    unfolding state_of viewed
    same_view no_entry no_entry h r = refl
    same_view no_entry directory_entry h r = cc
    same_view no_entry (file_entry w) h r = cc
    same_view directory_entry no_entry h r = cc
    same_view directory_entry directory_entry h r = refl
    same_view directory_entry (file_entry w) h r = cc
    same_view (file_entry v) no_entry h r = cc
    same_view (file_entry v) directory_entry h r = cc
    same_view (file_entry v) (file_entry w) h r = ap file_entry (kept v w (r v w refl refl))

    pub alike_same : (A B : Listing N) (c : Consult) → Alike R A B c → Same (seen view A) (seen view B) c
    unfolding seen
    alike_same A B c h = record {
      kind = state_viewed view (A c.path) ∙ h.kind ∙ sym (state_viewed view (B c.path));
      contents = λ e. same_view (A c.path) (B c.path) h.kind (h.contents e);
    }

    -- THE THEOREM of demand 3, for every routine: its one premise on the manifests is `kept`
    module _ {E X : Type 0} (A B : Listing N) (t : Ask E M X) (h : (c : Consult) → Memᴰ c (log (seen view A) t) → Alike R A B c) where
      pub same_answer : answer (seen view A) t ≡ answer (seen view B) t
      same_answer = agree_answer (seen view A) (seen view B) t (λ c m. alike_same A B c (h c m))

      pub same_log : log (seen view A) t ≡ log (seen view B) t
      same_log = agree_log (seen view A) (seen view B) t (λ c m. alike_same A B c (h c m))
