-- The walk over the members of an object, and over the elements of an array, where one is written.
use mathlib.Core.Path.{◌≡◌, refl, sym, ◌∙◌, ap, subst}
use mathlib.Core.List.{List, [], ◌∷◌}
use mathlib.Core.Option.{Option, none, some}
use Prim.Native.Nat.{ℕ, zero, suc}
use native.Mathlib.Omega.{arith}
use lib.ListN.{drop}
use Rattle.std.specs.Prelude.{Option as Answer, Some, None}
use Rattle.definition.specs.Text.{Text}
use Rattle.definition.specs.Json.{Json, arr, obj, Elements, no_element, element, Members, no_member, member, got, quoted, settled, settled_elements}
use Rattle.definition.specs.JsonAt.{first_member, first_element, next_member, next_element, member_value}
use Rattle.laws.specs.JsonAtLaws as at
use Rattle.laws.specs.JsonAtLaws.{members_there, no_members, elements_there, no_elements}
use Rattle.package_json.specs.Cursors.{placed}
use Rattle.package_json.specs.Parts.{one_by_one, members_of, elements_of, members_left, elements_left, MemberComes, ElementComes}
use Rattle.package_json.specs.declared.MemberAt.{MemberAt}
use Rattle.package_json.specs.declared.MembersLeft.{MembersLeft}
use Rattle.package_json.specs.declared.ElementsLeft.{ElementsLeft}
use Rattle.package_json.proofs.Parts.{none_there}
use Rattle.package_json.proofs.Values.{array_written}
use Rattle.package_target.specs.Places.{Written, Stands}

-- texts that begin with these members, and with these elements
pub data AreMembers (d : ℕ) : List Text → Members → Type 0 where
  no_more : AreMembers d [] no_member
  one_more : {s v e k : Text} {j : Json} {ss : List Text} {ms : Members} → quoted s ≡ got k e → member_value s ≡ some v
      → at.Stands d v j
      → AreMembers d ss ms → AreMembers d (s ∷ ss) (member k j ms)

pub data AreElements (d : ℕ) : List Text → Elements → Type 0 where
  no_other : AreElements d [] no_element
  one_other : {s : Text} {j : Json} {ss : List Text} {js : Elements} → at.Stands d s j → AreElements d ss js
      → AreElements d (s ∷ ss) (element j js)

members_from : (d n : ℕ) (ms : Members) (c : Option Text) → at.MembersFrom d n ms c
    → AreMembers d (one_by_one next_member n c) ms
unfolding one_by_one
members_from d n ms none no_members = rw (none_there next_member n none refl) no_more
members_from d zero ms (some s) (members_there h) = absurd (let x = at.member_here h in omega (arith, x.count))
members_from d (suc n) ms (some s) (members_there h) =
    let x = at.member_here h in
    let l : x.left ≡ n = omega (arith, x.count) in
    rw x.is (one_more x.quote x.place x.stands (members_from d n x.others (next_member s) (rw l at x.next)))

elements_from : (d n : ℕ) (js : Elements) (c : Option Text) → at.ElementsFrom d n js c
    → AreElements d (one_by_one next_element n c) js
unfolding one_by_one
elements_from d n js none no_elements = rw (none_there next_element n none refl) no_other
elements_from d zero js (some s) (elements_there h) = absurd (let x = at.element_here h in omega (arith, x.count))
elements_from d (suc n) js (some s) (elements_there h) =
    let x = at.element_here h in
    let l : x.left ≡ n = omega (arith, x.count) in
    rw x.is (one_other x.stands (elements_from d n x.others (next_element s) (rw l at x.next)))

-- the members ms are left
pub record WalkAt (m : List ℕ) (d : ℕ) (s : MembersLeft) (ms : Members) : Type 0 where
  pub manifest : s.manifest.now ≡ m
  pub from : AreMembers d (members_left s) ms

-- the first of them, and the others
pub record First (m : List ℕ) (d : ℕ) (x : MemberAt) (t : MembersLeft) (ms : Members) : Type 0 where
  pub name : List ℕ
  pub val : Json
  pub others : Members
  pub is : ms ≡ member name val others
  pub behind : List ℕ
  pub quote : quoted (drop x.name m) ≡ got name behind
  pub place : ℕ
  pub here : x.value ≡ Some place
  pub value : Written m d place val
  pub walk : WalkAt m d t others

pub walk_begin : (m : List ℕ) (i d : ℕ) (s : MembersLeft) (ms : Members) → s.manifest.now ≡ m
    → members_left s ≡ members_of (drop i m)
    → Written m (suc d) i (obj ms) → WalkAt m d s ms
walk_begin m i d s ms e f h = record {
  manifest = e;
  from =
      subst (λ ss. AreMembers d ss ms) (sym f)
      (members_from d 128 ms (first_member (drop i m)) (at.first_member_lem h.here));
}

placed_some : (m : List ℕ) (c : Answer ℕ) {s : List ℕ} → placed m c ≡ some s → (i : ℕ) × ((c ≡ Some i) × (drop i m ≡ s))
placed_some m (Some i) e = (i, (refl, cc))
placed_some m None e = absurd (let z : ◌≡◌ {A = ℕ} 0 1 = cc in omega arith)

module _ {m : List ℕ} {d : ℕ} {s : MembersLeft} {ms : Members} (w : WalkAt m d s ms) where
  pub walk_end : members_left s ≡ [] → ms ≡ no_member
  walk_end e = go (subst (λ ss. AreMembers d ss ms) e w.from)
    where
      go : {ms : Members} → AreMembers d [] ms → ms ≡ no_member
      go no_more = refl

  pub walk_on : {x : MemberAt} {t : MembersLeft} → MemberComes s x t → First m d x t ms
  walk_on {x = x} {t = t} c = go refl (subst (λ ss. AreMembers d ss ms) c.first w.from)
    where
      go : {u : Text} {os : Members} → u ≡ drop x.name s.manifest.now → AreMembers d (u ∷ members_left t) os
          → First m d x t os
      go e (one_more {e = behind} {k = k} {j = j} {ms = others} q v h more) =
          let p = placed_some s.manifest.now x.value (c.value ∙ ap member_value (sym e) ∙ v) in
          let there = p.1.1 in
          record {
            name = k;
            val = j;
            others = others;
            is = refl;
            behind = behind;
            quote = ap (λ n. quoted (drop x.name n)) (sym w.manifest) ∙ ap quoted (sym e) ∙ q;
            place = p.0;
            here = p.1.0;
            value = record { here = subst (λ y. at.Stands d y j) (sym there ∙ ap (λ n. drop p.0 n) w.manifest) h };
            walk = record { manifest = c.manifest ∙ w.manifest; from = more };
          }

-- the elements js, by what they mean, are left
pub record ElementsAt (m : List ℕ) (d : ℕ) (s : ElementsLeft) (js : Elements) : Type 0 where
  pub manifest : s.manifest.now ≡ m
  pub written : Elements
  pub from : AreElements d (elements_left s) written
  pub means : settled_elements written ≡ js

pub record FirstElement (m : List ℕ) (d i : ℕ) (t : ElementsLeft) (js : Elements) : Type 0 where
  pub val : Json
  pub others : Elements
  pub is : js ≡ element val others
  pub value : Stands m d i val
  pub walk : ElementsAt m d t others

pub elements_begin : (m : List ℕ) (i d : ℕ) (s : ElementsLeft) (js : Elements) → s.manifest.now ≡ m
    → elements_left s ≡ elements_of (drop i m)
    → Stands m (suc d) i (arr js) → ElementsAt m d s js
elements_begin m i d s js e f h =
    let w = array_written h.written js h.means in
    record {
      manifest = e;
      written = w.0;
      from =
          subst (λ ss. AreElements d ss w.0) (sym f)
          (elements_from d 128 w.0 (first_element (drop i m)) (at.first_element_lem (rw w.1.0 at h.there.here)));
      means = w.1.1;
    }

module _ {m : List ℕ} {d : ℕ} {s : ElementsLeft} {js : Elements} (w : ElementsAt m d s js) where
  pub elements_end : elements_left s ≡ [] → js ≡ no_element
  elements_end e = sym w.means ∙ go (subst (λ ss. AreElements d ss w.written) e w.from)
    where
      go : {os : Elements} → AreElements d [] os → settled_elements os ≡ no_element
      go no_other = unfold settled_elements in refl

  pub elements_on : {i : ℕ} {t : ElementsLeft} → ElementComes s i t → FirstElement m d i t js
  elements_on {i = i} {t = t} c = go refl w.means (subst (λ ss. AreElements d ss w.written) c.first w.from)
    where
      go : {u : Text} {os : Elements} → u ≡ drop i s.manifest.now → settled_elements os ≡ js
          → AreElements d (u ∷ elements_left t) os → FirstElement m d i t js
      go e f (one_other {j = j} {js = others} h more) = record {
        val = settled j;
        others = settled_elements others;
        is = sym f ∙ (unfold settled_elements in refl);
        value = record {
          written = j;
          there = record { here = subst (λ y. at.Stands d y j) (e ∙ ap (drop i) w.manifest) h };
          means = refl;
        };
        walk = record { manifest = c.manifest ∙ w.manifest; written = others; from = more; means = refl };
      }
