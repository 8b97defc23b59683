-- Two listings that agree at every path that a routine consults over the first give it the same answer and the same list.
--
use Rattle.std.specs.Prelude.{◌≡◌}
use Rattle.std.proofs.Math.Path.{refl, ap}
use Rattle.std.proofs.Common.{◌∙◌}
use mathlib.Core.List.{List, Memᴰ}
use Rattle.definition.specs.Listing.{Entry, no_entry, directory_entry, file_entry}
use Rattle.definition.specs.Ask.{Listing, Consult, Ask, ret, end, ask, read, state_of, contents_of, asked, opened, answer, log}

module _ {M : Type 0} where
  -- 01: both have no entry, both a directory or both a file, and at state 3 the two files show the same
  pub record Same (A B : Listing M) (c : Consult) : Type 0 where
    pub kind : state_of (A c.path) ≡ state_of (B c.path)
    pub contents : c.state ≡ 3 → A c.path ≡ B c.path

  abbrev pub Agree : Listing M → Listing M → List Consult → Type 0
  Agree A B l = (c : Consult) → Memᴰ c l → Same A B c

  -- what agrees at a manifest's consult is one and the same entry
  entries : (a b : Entry M) → state_of a ≡ state_of b → (opened a ≡ 3 → a ≡ b) → a ≡ b
  unfolding state_of opened
  entries no_entry no_entry h e = refl
  entries no_entry directory_entry h e = cc
  entries no_entry (file_entry w) h e = cc
  entries directory_entry no_entry h e = cc
  entries directory_entry directory_entry h e = refl
  entries directory_entry (file_entry w) h e = cc
  entries (file_entry v) no_entry h e = cc
  entries (file_entry v) directory_entry h e = cc
  entries (file_entry v) (file_entry w) h e = e refl

module _ {E M : Type 0} (A B : Listing M) where
  pub agree_answer : {X : Type 0} (t : Ask E M X) → Agree A B (log A t) → answer A t ≡ answer B t
  unfolding answer log
  agree_answer (ret x) h = refl
  agree_answer (end e) h = refl
  agree_answer (ask p k) h =
      let s = (h _ (Memᴰ.head refl)).kind in
      agree_answer (k (state_of (A p))) (λ c m. h c (Memᴰ.tail m)) ∙ ap (λ s. answer B (k s)) s
  agree_answer (read p k) h =
      let s = entries (A p) (B p) (h _ (Memᴰ.head refl)).kind (h _ (Memᴰ.head refl)).contents in
      agree_answer (k (contents_of (A p))) (λ c m. h c (Memᴰ.tail m)) ∙ ap (λ e. answer B (k (contents_of e))) s

  pub agree_log : {X : Type 0} (t : Ask E M X) → Agree A B (log A t) → log A t ≡ log B t
  unfolding log asked
  agree_log (ret x) h = refl
  agree_log (end e) h = refl
  agree_log (ask p k) h =
      let s = (h _ (Memᴰ.head refl)).kind in
      cc (agree_log (k (state_of (A p))) (λ c m. h c (Memᴰ.tail m)), s)
  agree_log (read p k) h =
      let s = entries (A p) (B p) (h _ (Memᴰ.head refl)).kind (h _ (Memᴰ.head refl)).contents in
      cc (agree_log (k (contents_of (A p))) (λ c m. h c (Memᴰ.tail m)), s)
