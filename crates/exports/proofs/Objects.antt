-- The loops over the keys of an object: what they begin with, and the best of those that match.
use mathlib.Core.Path.{◌≡◌, refl, sym, ◌∙◌, ap, subst}
use mathlib.Core.Bool.{Bool, true, false, not, ◌&&◌, ◌||◌}
use mathlib.Core.List.Memᴰ
use mathlib.Core.List.{List, [], ◌∷◌, Memᴰ}
use mathlib.Core.Logic.{◌⊎◌, inl, inr}
use mathlib.Core.Option.{Option, none, some}
use Prim.Native.Nat as native
use Prim.Native.Nat.{ℕ}
use package.native.Mathlib.Omega.{arith}
use lib.ListN.{drop}
use Rattle.std.specs.Prelude.{Option as Answer, Some, None, if◌then◌else◌}
use Rattle.definition.specs.Text.{equal}
use Rattle.laws.specs.TextLaws.{equal_refl}
use Rattle.definition.specs.Reordered.{NoKey, Distinct}
use Rattle.laws.specs.SettledLaws.{settled_distinct, any_settled}
use Rattle.laws.specs.SettledKeyLaws.{SameKey, neither, both, same_key_chosen}
use Rattle.definition.specs.Json.{Json, obj, Members, no_member, member, got, quoted, settled_members}
use Rattle.definition.specs.Exports.{Entry, entries, get, is_dot_key, is_subpath_key, any_key, PATTERN_KEY_COMPARE, is_gt as native_gt, pattern_match, is_match, matches, best_key, better, best}
use Rattle.package_target.specs.Places.{Stands}
use Rattle.package_json.specs.declared.MemberAt.{MemberAt}
use Rattle.package_json.specs.declared.MembersLeft.{MembersLeft}
use Rattle.package_json.specs.Parts.{members_of, members_left, MemberComes}
use Rattle.package_target.proofs.Places.{object_at, equal_sym}
use Rattle.package_target.proofs.Walks.{WalkAt, walk_begin, walk_end, walk_on}
use Rattle.exports.specs.declared.KeyMarks.{KeyMarks}
use Rattle.exports.specs.declared.Best.{Best}
use Rattle.std.specs.declared.cmp.Ordering.{Ordering}
use Rattle.std.specs.declared.cmp.Ordering.TheVariants.{Less, Equal, Greater}
use Rattle.std.specs.Ordering.{is_gt}
use Rattle.targets.specs.Keys.{rank_of, order_of}
use Rattle.exports.specs.Chosen.{a_key, joined_keys, keys_of, BestOf}

-- what the keys begin with
or_assoc : (a b c : Bool) → (a || (b || c)) ≡ ((a || b) || c)
or_assoc true b c = refl
or_assoc false b c = refl

or-false : (a : Bool) → (a || false) ≡ a
or-false true = refl
or-false false = refl

keys_made : (a : KeyMarks) (x y z : Bool) → x ≡ a.dot → y ≡ a.other → z ≡ a.subpath
    → record { dot = x; other = y; subpath = z } ≡ a
keys_made a x y z e f g = rw (e, f, g)

joined_assoc : (a b c : KeyMarks) → joined_keys a (joined_keys b c) ≡ joined_keys (joined_keys a b) c
joined_assoc a b c =
    keys_made (joined_keys (joined_keys a b) c) _ _ _ (or_assoc a.dot b.dot c.dot) (or_assoc a.other b.other c.other)
    (or_assoc a.subpath b.subpath c.subpath)

joined_none : (a : KeyMarks) → joined_keys a (keys_of []) ≡ a
unfolding any_key
joined_none a = keys_made a _ _ _ (or-false a.dot) (or-false a.other) (or-false a.subpath)

keys_none : keys_of (entries no_member) ≡ keys_of []
unfolding entries
keys_none = refl

keys_more : (k : List ℕ) (j : Json) (ms : Members)
    → keys_of (entries (member k j ms)) ≡ joined_keys (a_key k) (keys_of (entries ms))
unfolding entries any_key
keys_more k j ms = refl

pub record Keyed (m : List ℕ) (ms : Members) (s : MembersLeft) (keys : KeyMarks) : Type 0 where
  pub others : Members
  pub walk : WalkAt m 14 s others
  pub same : keys_of (entries ms) ≡ joined_keys keys (keys_of (entries others))

-- the names of an object are those of the members as written
keys_settled : (os : Members) → keys_of (entries (settled_members os)) ≡ keys_of (entries os)
keys_settled os =
    keys_made (keys_of (entries os)) _ _ _ (any_settled is_dot_key os) (any_settled (λ k. not (is_dot_key k)) os)
    (any_settled is_subpath_key os)

pub keyed_start : (m : List ℕ) (i : ℕ) (ms : Members) (s : MembersLeft) → s.manifest.now ≡ m
    → members_left s ≡ members_of (drop i m)
    → (keys : KeyMarks) → (keys.dot ≡ false) × ((keys.other ≡ false) × (keys.subpath ≡ false)) → Stands m 15 i (obj ms)
    → Keyed m ms s keys
keyed_start m i ms s e f keys n h =
    let o = object_at h in
    let z : record { dot = false; other = false; subpath = false } ≡ keys =
    keys_made keys _ _ _ (sym n.0) (sym n.1.0) (sym n.1.1) in
    rw (sym z) (record {
      others = o.members;
      walk = walk_begin m i 14 s o.members e f o.there;
      same = ap (λ x. keys_of (entries x)) (sym o.means) ∙ keys_settled o.members;
    })

module _ {m : List ℕ} {ms : Members} {s : MembersLeft} {keys : KeyMarks} (g : Keyed m ms s keys) where
  pub keyed_end : members_left s ≡ [] → keys ≡ keys_of (entries ms)
  keyed_end e =
      sym (g.same ∙ ap (λ x. joined_keys keys (keys_of (entries x))) (walk_end g.walk e)
      ∙ ap (joined_keys keys) keys_none ∙ joined_none keys)

  pub keyed_on : {x : MemberAt} {t : MembersLeft} → MemberComes s x t → (K : KeyMarks)
      → ((k r : List ℕ) → quoted (drop x.name m) ≡ got k r → K ≡ a_key k)
      → (r : KeyMarks) → r ≡ joined_keys keys K → Keyed m ms t r
  keyed_on c K p r q =
      let f = walk_on g.walk c in
      let a : K ≡ a_key f.name = p f.name f.behind f.quote in
      record {
        others = f.others;
        walk = f.walk;
        same =
            g.same ∙ ap (λ x. joined_keys keys (keys_of (entries x))) f.is
            ∙ ap (joined_keys keys) (keys_more f.name f.val f.others)
            ∙ joined_assoc keys (a_key f.name) (keys_of (entries f.others))
            ∙ ap (λ x. joined_keys x (keys_of (entries f.others))) (sym (q ∙ ap (joined_keys keys) a));
      }

-- the best key
module _ (mk : List ℕ) (o : Option Entry) (e : Entry) where
  pub no_match : none ≡ pattern_match mk e.key → better mk o e ≡ o
  unfolding better matches is_match
  no_match h = rw (sym h)

  module _ {p : List ℕ} (h : some p ≡ pattern_match mk e.key) where
    pub not_before : {x : native.Ordering} → x ≡ PATTERN_KEY_COMPARE (best_key o) e.key → native_gt x ≡ false
        → better mk o e ≡ o
    unfolding better matches is_match
    not_before f g = rw (sym h, sym f, g)

    pub before_best : {x : native.Ordering} → x ≡ PATTERN_KEY_COMPARE (best_key o) e.key → native_gt x ≡ true
        → better mk o e ≡ some e
    unfolding better matches is_match
    before_best f g = rw (sym h, sym f, g)

-- every key comes before none
pub first_match : (mk : List ℕ) (e : Entry) {p : List ℕ} → some p ≡ pattern_match mk e.key → better mk none e ≡ some e
unfolding better matches is_match best_key PATTERN_KEY_COMPARE native_gt
first_match mk e h = rw (sym h)

pub order_gt : (o : Ordering) (b : Bool) → b ≡ is_gt o → native_gt (order_of o) ≡ b
unfolding native_gt
order_gt Less b h = sym h
order_gt Equal b h = sym h
order_gt Greater b h = sym h

pub no_best : (m mk : List ℕ) (o : Option Entry) → BestOf m mk None o → o ≡ none
no_best m mk none h = refl
no_best m mk (some e) h = absurd h

pub best_rank : (m mk : List ℕ) (b : Best) (o : Option Entry) → BestOf m mk (Some b) o → b.rank ≡ rank_of (best_key o)
unfolding best_key
best_rank m mk b none h = absurd h
best_rank m mk b (some e) h = h.ranked

pub record Besting (m mk : List ℕ) (ms : Members) (s : MembersLeft) (b : Answer Best) : Type 0 where
  pub others : Members
  pub walk : WalkAt m 14 s others
  pub so : Option Entry
  pub is : BestOf m mk b so
  pub written : Members
  pub means : settled_members written ≡ ms
  pub same : best mk none (entries written) ≡ best mk so (entries others)

pub best_start : (m mk : List ℕ) (i : ℕ) (ms : Members) (s : MembersLeft) → s.manifest.now ≡ m
    → members_left s ≡ members_of (drop i m)
    → Stands m 15 i (obj ms) → Besting m mk ms s None
best_start m mk i ms s e f h =
    let o = object_at h in
    record {
      others = o.members;
      walk = walk_begin m i 14 s o.members e f o.there;
      so = none;
      is = tt;
      written = o.members;
      means = o.means;
      same = refl;
    }

-- only the key of the best entry counts
best_as : (m mk : List ℕ) (b : Answer Best) {o p : Option Entry} → SameKey o p → BestOf m mk b o → BestOf m mk b p
best_as m mk b neither h = h
best_as m mk None (both e) h = h
best_as m mk (Some b) (both e) h = record {
  ranked = h.ranked ∙ ap rank_of e;
  behind = h.behind;
  named = h.named ∙ ap (λ k. got k h.behind) e;
  matched = ap (pattern_match mk) (sym e) ∙ h.matched;
}

module _ {m mk : List ℕ} {ms : Members} {s : MembersLeft} {b : Answer Best} (g : Besting m mk ms s b) where
  pub best_end : members_left s ≡ [] → BestOf m mk b (best mk none (entries ms))
  unfolding best entries
  best_end e =
      let whole : BestOf m mk b (best mk none (entries g.written)) =
      rw (g.same ∙ ap (λ x. best mk g.so (entries x)) (walk_end g.walk e)) g.is in
      subst (λ x. BestOf m mk b (best mk none (entries x))) g.means
      (best_as m mk b (same_key_chosen mk g.written) whole)

  pub best_on : {x : MemberAt} {t : MembersLeft} → MemberComes s x t → (r : Answer Best)
      → ((o : Option Entry) (k u : List ℕ) (j : Json) → quoted (drop x.name m) ≡ got k u → BestOf m mk b o
      → BestOf m mk r (better mk o (record { key = k; target = j }))) → Besting m mk ms t r
  unfolding best entries
  best_on c r p =
      let f = walk_on g.walk c in
      record {
        others = f.others;
        walk = f.walk;
        so = better mk g.so (record { key = f.name; target = f.val });
        is = p g.so f.name f.behind f.val f.quote g.is;
        written = g.written;
        means = g.means;
        same = g.same ∙ ap (λ x. best mk g.so (entries x)) f.is;
      }

-- the best entry is one of the map's, and, names being distinct, its value is the one that its key has
best_in : (mk : List ℕ) (o : Option Entry) (es : List Entry) (e : Entry) → best mk o es ≡ some e
    → (o ≡ some e) ⊎ Memᴰ e es
unfolding best
best_in mk o [] e h = inl h
best_in mk o (x ∷ es) e h = go (best_in mk (better mk o x) es e h)
  where
    by : (t : Bool) → (if t then some x else o) ≡ some e → (o ≡ some e) ⊎ Memᴰ e (x ∷ es)
    by true p = inr (Memᴰ.head (let q : e ≡ x = cc in q))
    by false p = inl p

    go : (better mk o x ≡ some e) ⊎ Memᴰ e es → (o ≡ some e) ⊎ Memᴰ e (x ∷ es)
    go (inl p) = by (matches mk x.key && native_gt (PATTERN_KEY_COMPARE (best_key o) x.key)) (unfold better in p)
    go (inr m) = inr (Memᴰ.tail m)

not_key : (k : List ℕ) (es : List Entry) (e : Entry) → NoKey k es → Memᴰ e es → equal k e.key ≡ false
not_key k [] e n m = absurd (Memᴰ.not-nil m)
not_key k (x ∷ es) e n (Memᴰ.head p) = ap (λ y. equal k y.key) p ∙ n.0
not_key k (x ∷ es) e n (Memᴰ.tail m) = not_key k es e n.1 m

get_member : (es : List Entry) (e : Entry) → Distinct es → Memᴰ e es → get e.key es ≡ some e.target
unfolding get
get_member [] e d m = absurd (Memᴰ.not-nil m)
get_member (x ∷ es) e d (Memᴰ.head p) =
    ap (λ y. if equal y.key x.key then some x.target else get y.key es) p
    ∙ rw (equal_refl x.key) (ap (λ y. some y.target) (sym p))
get_member (x ∷ es) e d (Memᴰ.tail m) = rw (equal_sym e.key x.key ∙ not_key x.key es e d.0 m) (get_member es e d.1 m)

pub best_value : (m mk : List ℕ) (d i : ℕ) (ms : Members) (e : Entry) → Stands m d i (obj ms)
    → best mk none (entries ms) ≡ some e → get e.key (entries ms) ≡ some e.target
best_value m mk d i ms e h p =
    let o = object_at h in
    get_member (entries ms) e (subst (λ x. Distinct (entries x)) o.means (settled_distinct o.members))
    (go (best_in mk none (entries ms) e p))
  where
    go : (none ≡ some e) ⊎ Memᴰ e (entries ms) → Memᴰ e (entries ms)
    go (inl q) = absurd (let z : ◌≡◌ {A = ℕ} 0 1 = cc in omega arith)
    go (inr q) = q
