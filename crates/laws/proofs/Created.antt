-- THE VALUE OF AN OBJECT'S MEMBERS, by ECMA-262's own words: the members are created one after the other (`created_in` in SettledLaws).
use Rattle.std.specs.Prelude.{◌≡◌, Bool, if◌then◌else◌}
use Rattle.std.proofs.Math.Path.{refl, ap}
use Rattle.std.proofs.Common.{sym, ◌∙◌, true≢false}
use Rattle.std.proofs.Math.Bool.{true, false}
use Rattle.definition.specs.Text.{Text, equal}
use Rattle.laws.specs.TextLaws.{equal_true, equal_refl}
use Rattle.definition.specs.Json.{Json, Members, no_member, member, last_or, without, settled, settled_members}
use Rattle.laws.specs.SettledLaws.{create_data_property, created_in}

-- a test decided
by : (u : Bool) {P : Type 0} → (u ≡ true → P) → (u ≡ false → P) → P
by true t f = t refl
by false t f = f refl

module _ (k : Text) where
  last_of_none : (v : Json) (r : Members) → last_or k v (without k r) ≡ v
  unfolding last_or without
  last_of_none v no_member = refl
  last_of_none v (member i w r) = by (equal k i) (λ h. rw h (last_of_none v r)) (λ h. rw (h, h) (last_of_none v r))

  last_of_others : (i : Text) (v : Json) (r : Members) → equal k i ≡ false → last_or k v (without i r) ≡ last_or k v r
  unfolding last_or without
  last_of_others i v no_member d = refl
  last_of_others i v (member l w r) d =
      by (equal i l) (λ h. let e : equal k l ≡ false = ap (equal k) (sym (equal_true i l h)) ∙ d in rw (h, e) (last_of_others i v r d))
      (λ h. rw h (by (equal k l) (λ e. rw e (last_of_others i w r d)) (λ e. rw e (last_of_others i v r d))))

  without_twice : (r : Members) → without k (without k r) ≡ without k r
  unfolding without
  without_twice no_member = refl
  without_twice (member i w r) = by (equal k i) (λ h. rw h (without_twice r)) (λ h. rw (h, h) (ap (member i w) (without_twice r)))

  without_swap : (i : Text) (r : Members) → without i (without k r) ≡ without k (without i r)
  unfolding without
  without_swap i no_member = refl
  without_swap i (member l w r) = go (equal k l) refl (equal i l) refl (without_swap i r)
    where
      go : (u : Bool) → equal k l ≡ u → (v : Bool) → equal i l ≡ v → without i (without k r) ≡ without k (without i r)
          → without i (if u then without k r else member l w (without k r)) ≡ without k (if v then without i r else member l w (without i r))
      go true e true f ih = ih
      go true e false f ih = rw e ih
      go false e true f ih = rw f ih
      go false e false f ih = rw (e, f) (ap (member l w) ih)

-- an object's members, with the values of r where it has one, and behind them the others of r
unfoldable over : Members → Members → Members
over no_member r = r
over (member i v ms) r = member i (last_or i v r) (over ms (without i r))

over_none : (ms : Members) → over ms no_member ≡ ms
unfolding over last_or without
over_none no_member = refl
over_none (member i v ms) = ap (member i v) (over_none ms)

over_created : (k : Text) (v : Json) (ms r : Members) → over (create_data_property k v ms) r ≡ over ms (member k (last_or k v r) (without k r))
unfolding over create_data_property
over_created k v no_member r = refl
over_created k v (member i w ms) r = go (equal k i) refl (over_created k v ms (without i r))
  where
    R : Members
    R = member k (last_or k v r) (without k r)

    last_R : (u : Bool) → equal i k ≡ u → last_or i w R ≡ (if u then last_or i (last_or k v r) (without k r) else last_or i w (without k r))
    last_R u e = unfold last_or in rw e

    without_R : (u : Bool) → equal i k ≡ u → without i R ≡ (if u then without i (without k r) else member k (last_or k v r) (without i (without k r)))
    without_R u e = unfold without in rw e

    go : (u : Bool) → equal k i ≡ u → over (create_data_property k v ms) (without i r) ≡ over ms (member k (last_or k v (without i r)) (without k (without i r)))
        → over (if u then member i v ms else member i w (create_data_property k v ms)) r ≡ member i (last_or i w R) (over ms (without i R))
    go true e ih =
        let p : k ≡ i = equal_true k i e in
        let q : equal i k ≡ true = rw p (equal_refl i) in
        let a : last_or i v r ≡ last_or i w R = sym (last_R true q ∙ ap (λ z. last_or z (last_or k v r) (without k r)) (sym p) ∙ last_of_none k (last_or k v r) r ∙ ap (λ z. last_or z v r) p) in
        let b : without i r ≡ without i R = sym (without_R true q ∙ ap (λ z. without z (without k r)) (sym p) ∙ without_twice k r ∙ ap (λ z. without z r) p) in
        cc (a, b)
    go false e ih =
        let q : equal i k ≡ false = by (equal i k) (λ h. absurd (true≢false (sym (rw (equal_true i k h) (equal_refl k)) ∙ e))) (λ h. h) in
        let a : last_or i w r ≡ last_or i w R = sym (last_R false q ∙ last_of_others i k w r q) in
        let b : member k (last_or k v (without i r)) (without k (without i r)) ≡ without i R =
        sym (without_R false q ∙ cc (sym (last_of_others k i v r e), without_swap k i r)) in
        cc (a, ih ∙ ap (over ms) b)

created_is : (object ms : Members) → created_in object ms ≡ over object (settled_members ms)
unfolding created_in settled_members
created_is object no_member = sym (over_none object)
created_is object (member k j ms) = created_is (create_data_property k (settled j) object) ms ∙ over_created k (settled j) object (settled_members ms)

pub as_created : (ms : Members) → settled_members ms ≡ created_in no_member ms
as_created ms = sym (created_is no_member ms ∙ (unfold over in refl))
