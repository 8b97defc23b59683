-- A member's value that was looked for, and the member of a map that applies to a match key.
use mathlib.Core.Path.{◌≡◌, refl, sym, ap, subst}
use mathlib.Core.Bool.{Bool, true, false, not, ◌&&◌}
use mathlib.Core.List.{List}
use mathlib.Core.Option.{Option, none, some}
use Prim.Native.Nat.{ℕ, suc}
use native.Mathlib.Omega.{arith}
use lib.ListN.{length, drop, take}
use Rattle.std.specs.Prelude.{Option as Answer, Some, None, if◌then◌else◌}
use Rattle.definition.specs.Text.{text, star, starts_with, ends_with, contains}
use Rattle.definition.specs.Json.{Json, obj, Members, got, quoted}
use Rattle.definition.specs.JsonAt.{get_at}
use Rattle.definition.specs.Manifest.{field}
use Rattle.definition.specs.Exports as exports
use Rattle.definition.specs.Exports.{Entry, entries, get, is_subpath_key, pattern_match, best, literal, as_selected, literal_or, select}
use Rattle.package_json.specs.Cursors.{placed}
use Rattle.package_json.specs.Values as values
use Rattle.package_json.proofs.Values.{get_here}
use Rattle.targets.specs.declared.Form.{Form}
use Rattle.targets.specs.declared.Form.TheVariants.{Plain}
use Rattle.targets.specs.declared.Wanted.{Wanted}
use Rattle.targets.specs.Contexts.{read_text}
use Rattle.targets.specs.Answers.{Formed, Asked}
use Rattle.package_target.specs.Places.{Stands}
use Rattle.package_target.proofs.Places.{stands_at}
use Rattle.exports.specs.declared.Best.{Best}
use Rattle.exports.specs.declared.Key.TheVariants.{Subpath, At}
use Rattle.exports.specs.declared.Member.{Member}
use Rattle.exports.specs.Chosen.{Finds, Chosen, BestOf, form_of, part_of, request_for, Applies, Selects}
use Rattle.exports.proofs.Objects.{best_value}

clash : {P : Type 0} → true ≡ false → P
clash e = absurd (let z : ◌≡◌ {A = ℕ} 0 1 = cc in omega arith)

-- a member's value that was looked for
finds_from : (m : List ℕ) (d : ℕ) (o : Option Json) (c : Answer ℕ) → values.Finds d o (placed m c) → Finds m d o c
finds_from m d (some j) (Some i) (values.finds h) = stands_at h
finds_from m d none None values.finds_none = tt
finds_from m d none (Some i) h = elim h [ ]
finds_from m d (some j) None h = elim h [ ]

pub get_finds : (m : List ℕ) (i : ℕ) (c : Answer ℕ) (k : List ℕ) → placed m c ≡ get_at k (drop i m)
    → (d : ℕ) (ms : Members) → Stands m (suc d) i (obj ms) → Finds m d (get k (entries ms)) c
unfolding field
get_finds m i c k e d ms h =
    let there : values.Stands (suc d) (drop i m) (obj ms) =
    record { written = h.written; there = h.there.here; means = h.means } in
    finds_from m d (get k (entries ms)) c (rw e (get_here k there))

pub finds_some : (m : List ℕ) (d : ℕ) (o : Option Json) (r : Answer ℕ) (i : ℕ) → Finds m d o r → r ≡ Some i
    → (j : Json) × ((o ≡ some j) × Stands m d i j)
finds_some m d (some j) r i h e = (j, (refl, rw e at h))
finds_some m d none r i h e = absurd (rw e at h)

pub finds_none : (m : List ℕ) (d : ℕ) (o : Option Json) (r : Answer ℕ) → Finds m d o r → r ≡ None → o ≡ none
finds_none m d (some j) r h e = absurd (rw e at h)
finds_none m d none r h e = refl

module _ (m mk : List ℕ) (es : List Entry) where
  pub literal_star : contains star mk ≡ true → Finds m 14 (literal mk es) None
  unfolding literal
  literal_star h = rw h tt

  pub literal_get : contains star mk ≡ false → (r : Answer ℕ) → Finds m 14 (get mk es) r → Finds m 14 (literal mk es) r
  unfolding literal
  literal_get h r f = rw h f

-- which member applies
module _ (m mk : List ℕ) (es : List Entry) where
  pub slash_selects : ends_with (text "/") mk ≡ true → Selects m mk None (select mk es)
  unfolding select
  slash_selects h = rw h tt

  module _ (h : ends_with (text "/") mk ≡ false) where
    pub literal_selects : (i : ℕ) (j : Json) → literal mk es ≡ some j → Stands m 14 i j
        → Selects m mk (Some (record { key = Subpath; value = i; matched = None; form = Plain })) (select mk es)
    unfolding select literal_or
    literal_selects i j e t =
        rw (h, e) (record { named = refl; matched = refl; there = t; formed = λ url cs. refl })

    pub pattern_selects : literal mk es ≡ none → (r : Answer Member) → Selects m mk r (as_selected mk (best mk none es))
        → Selects m mk r (select mk es)
    unfolding select literal_or
    pattern_selects e r f = rw (h, e) f

-- the best pattern key
pub no_pattern : (m mk : List ℕ) (o : Option Entry) → BestOf m mk None o → Selects m mk None (as_selected mk o)
unfolding as_selected
no_pattern m mk none h = tt
no_pattern m mk (some x) h = absurd h

best_some : (m mk : List ℕ) (b : Best) (o : Option Entry) → BestOf m mk (Some b) o
    → (e : Entry) × ((o ≡ some e) × Chosen m mk b e)
best_some m mk b none h = absurd h
best_some m mk b (some x) h = (x, (refl, h))

-- its entry, and its value, which was looked for by the key
pub record BestMember (m mk : List ℕ) (b : Best) (o : Option Entry) (r : Answer ℕ) : Type 0 where
  pub entry : Entry
  pub is : o ≡ some entry
  pub chosen : Chosen m mk b entry
  pub value : Finds m 14 (some entry.target) r

pub best_member : (m mk : List ℕ) (b : Best) (ms : Members) (i : ℕ) (r : Answer ℕ) → Stands m 15 i (obj ms)
    → BestOf m mk (Some b) (best mk none (entries ms))
    → ((k s : List ℕ) → quoted (drop b.key m) ≡ got k s → Finds m 14 (get k (entries ms)) r)
    → BestMember m mk b (best mk none (entries ms)) r
best_member m mk b ms i r h o f =
    let x = best_some m mk b (best mk none (entries ms)) o in
    let found = f x.0.key x.1.1.behind x.1.1.named in
    record {
      entry = x.0;
      is = x.1.0;
      chosen = x.1.1;
      value = subst (λ j. Finds m 14 j r) (best_value m mk 15 i ms x.0 h x.1.0) found;
    }

-- a key without a star that matches is a folder's
folder_ends : (mk k p : List ℕ) → pattern_match mk k ≡ some p → contains star k ≡ false → ends_with (text "/") k ≡ true
unfolding pattern_match
folder_ends mk k p h n = go (is_subpath_key k) (ends_with (text "/") k) (rw n at h)
  where
    go : (a e : Bool)
        → (if not a then none else if e && starts_with k mk then some (drop (length k) mk) else none) ≡ some p
        → e ≡ true
    go a true g = refl
    go true false g = cc
    go false false g = cc

-- what is selected where an entry is the best
abbrev taken : (mk : List ℕ) → Entry → exports.Selected
taken mk e = record { key = e.key; matched = pattern_match mk e.key; target = e.target }

asked_form : (m mk : List ℕ) (b : Best) (e : Entry) → Chosen m mk b e → (url : List ℕ) (cs : List (List ℕ))
    → Formed (request_for url cs (taken mk e)) (form_of b.rank.starred) (take b.matched.len (drop b.matched.start mk))
asked_form m mk b e h url cs = go b.rank.starred (sym (ap (λ r. r.starred) h.ranked))
  where
    go : (t : Bool) → contains star e.key ≡ t
        → Formed (request_for url cs (taken mk e)) (form_of t) (take b.matched.len (drop b.matched.start mk))
    go true s = (h.matched, s)
    go false s = (h.matched, s, folder_ends mk e.key (take b.matched.len (drop b.matched.start mk)) h.matched s)

module _ (m mk : List ℕ) (b : Best) (o : Option Entry) {r : Answer ℕ} (g : BestMember m mk b o r) where
  pub best_missed : r ≡ None → ⊥
  best_missed e = rw e at g.value

  pub best_selects : {i : ℕ} → r ≡ Some i → (form : Form) → form ≡ form_of b.rank.starred
      → Selects m mk (Some (record { key = At b.key; value = i; matched = Some b.matched; form = form }))
      (as_selected mk o)
  unfolding as_selected
  best_selects e form f = rw g.is (record {
    named = ap read_text g.chosen.named;
    matched = sym g.chosen.matched;
    there = rw e at g.value;
    formed = λ url cs. rw f (asked_form m mk b g.entry g.chosen url cs);
  })

-- from what was selected to the request for its target
module _ (m mk : List ℕ) (r : Answer Member) where
  pub none_selected : (o : Option exports.Selected) → Selects m mk r o → r ≡ None → o ≡ none
  none_selected none h e = refl
  none_selected (some s) h e = absurd (rw e at h)

  pub one_selected : (o : Option exports.Selected) (k : Member) → Selects m mk r o → r ≡ Some k
      → (s : exports.Selected) × ((o ≡ some s) × Applies m mk k s)
  one_selected none k h e = absurd (rw e at h)
  one_selected (some s) k h e = (s, (refl, rw e at h))

pub asked_for : {m mk : List ℕ} {k : Member} {s : exports.Selected} → Applies m mk k s
    → (conditions : List (List ℕ)) (w : Wanted)
    → w.form ≡ k.form → w.pattern.now ≡ part_of mk k.matched → Asked (request_for w.url.now conditions s) w
asked_for {k = k} h conditions w f e = record { directory = refl; formed = rw (f, e) (h.formed w.url.now conditions) }
