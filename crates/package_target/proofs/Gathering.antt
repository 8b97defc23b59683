-- The loop that gathers the last value of each condition that an object names.
use mathlib.Core.Path.{◌≡◌, refl, sym, ◌∙◌, ap}
use mathlib.Core.Bool.{Bool, true, false, true≢false}
use mathlib.Core.List.{List, []}
use mathlib.Core.Option.{Option, some}
use Prim.Native.Nat.{ℕ, ◌<◌}
use native.Mathlib.Omega.{arith}
use lib.Dec.{ltb}
use borrow.Author.Tests.{ltb-true, ltb-false}
use lib.ListN.{length, drop, get_or, set, length-set}
use lib.Seq.{get_or-set_same, get_or-set_other}
use Rattle.std.specs.Prelude.{Option as Answer, Some, None}
use Rattle.definition.specs.Text.{Text, equal}
use Rattle.laws.specs.TextLaws.{equal_true, equal_refl}
use Rattle.definition.specs.Json.{Json, Members, member, got, quoted}
use Rattle.laws.specs.SettledLaws.{last_from}
use Rattle.package_target.specs.Conditions.{condition_of, StandsIf, LastValues}
use Rattle.package_target.proofs.Places.{equal_sym, written_inside}
use Rattle.package_target.proofs.Walks.{WalkAt, First, walk_end, walk_on}
use Rattle.package_json.specs.declared.MemberAt.{MemberAt}
use Rattle.package_json.specs.declared.MembersLeft.{MembersLeft}
use Rattle.package_json.specs.Parts.{members_left, MemberComes}
use Rattle.package_target.proofs.Conditions.{same_condition}

-- the last value of a name so far, and what it will be; o: before
pub record Gathered (m : List ℕ) (d : ℕ) (v : Answer ℕ) (k : Text) (o : Option Json) (others ms : Members)
    : Type 0 where
  pub so_far : Option Json
  pub there : StandsIf m d v so_far
  pub same : last_from k o ms ≡ last_from k so_far others

pub record Gathering (m : List ℕ) (d : ℕ) (cs : List Text) (before values : List (Answer ℕ)) (s : MembersLeft)
    (ms : Members) : Type 0 where
  pub size : length values ≡ length before
  pub others : Members
  pub walk : WalkAt m d s others
  pub each : (k : Text) (o : Option Json) → condition_of cs k < 256
      → StandsIf m d (get_or before (condition_of cs k) None) o
      → Gathered m d (get_or values (condition_of cs k) None) k o others ms

-- what one member does to the last value of its own name, and to others
last_own : (k : Text) (o : Option Json) (j : Json) (ms : Members)
    → last_from k o (member k j ms) ≡ last_from k (some j) ms
unfolding last_from
last_own k o j ms = rw (equal_refl k)

last_other : (k n : Text) (o : Option Json) (j : Json) (ms : Members) → equal n k ≡ false
    → last_from k o (member n j ms) ≡ last_from k o ms
unfolding last_from
last_other k n o j ms e = rw (equal_sym k n ∙ e)

pub gather_begin : (m : List ℕ) (d : ℕ) (cs : List Text) (values : List (Answer ℕ)) (s : MembersLeft) (ms : Members)
    → WalkAt m d s ms → Gathering m d cs values values s ms
gather_begin m d cs values s ms w =
    record { size = refl; others = ms; walk = w; each = λ k o a h. record { so_far = o; there = h; same = refl } }

module _ {m : List ℕ} {d : ℕ} {cs : List Text} {before values : List (Answer ℕ)} {s : MembersLeft} {ms : Members}
    (g : Gathering m d cs before values s ms) where
  pub gather_end : members_left s ≡ [] → LastValues m d cs before values ms
  gather_end e = record { size = g.size; last = last }
    where
      last : (k : Text) (o : Option Json) → condition_of cs k < 256
          → StandsIf m d (get_or before (condition_of cs k) None) o
          → StandsIf m d (get_or values (condition_of cs k) None) (last_from k o ms)
      last k o a h =
          let w = g.each k o a h in
          let z : last_from k o ms ≡ w.so_far =
          w.same ∙ ap (last_from k w.so_far) (walk_end g.walk e) ∙ (unfold last_from in refl) in
          rw z w.there

  module _ (size : length before ≡ 256) {x : MemberAt} {t : MembersLeft} (c : MemberComes s x t)
      (next : List (Answer ℕ))
      (u : (k r : List ℕ) (v : ℕ) → quoted (drop x.name m) ≡ got k r → x.value ≡ Some v → v < length m
      → next ≡ set values (condition_of cs k) (Some v)) where
    that : First m d x t g.others
    that = walk_on g.walk c

    abbrev index : ℕ
    index = condition_of cs that.name

    inside : that.place < length m
    inside = go (ltb that.place (length m)) refl
      where
        go : (b : Bool) → ltb that.place (length m) ≡ b → that.place < length m
        go true e = ltb-true _ _ e
        go false e = absurd (written_inside m d that.place that.val that.value (ltb-false _ _ e))

    put : next ≡ set values index (Some that.place)
    put = u that.name that.behind that.place that.quote that.here inside

    own : {o : Option Json} → Gathered m d (Some that.place) that.name o that.others ms → (k : Text)
        → condition_of cs k < 256 → that.name ≡ k
        → Gathered m d (get_or next (condition_of cs k) None) k o that.others ms
    own w k a p =
        let l : index < 256 = rw p a in
        let z : get_or next (condition_of cs k) None ≡ Some that.place =
        ap (λ y. get_or y (condition_of cs k) None) put
        ∙ rw (sym p) (get_or-set_same values index (Some that.place) None (omega (arith, g.size, size))) in
        rw (z, sym p) w

    here : (k : Text) (o : Option Json) → condition_of cs k < 256
        → StandsIf m d (get_or before (condition_of cs k) None) o → that.name ≡ k
        → Gathered m d (Some that.place) that.name o that.others ms
    here k o a h p =
        let w = rw (sym p) at (g.each k o a h) in
        record {
          so_far = some that.val;
          there = that.value;
          same = w.same ∙ ap (last_from that.name w.so_far) that.is ∙ last_own that.name w.so_far that.val that.others;
        }

    other : (k : Text) (o : Option Json) → condition_of cs k < 256
        → StandsIf m d (get_or before (condition_of cs k) None) o → equal that.name k ≡ false
        → Gathered m d (get_or next (condition_of cs k) None) k o that.others ms
    other k o a h q =
        let w = g.each k o a h in
        let differ : condition_of cs k ≡ index → ⊥ =
        λ z. true≢false (sym (equal_refl k) ∙ ap (λ y. equal y k) (same_condition cs k that.name a z) ∙ q) in
        let same_place : get_or next (condition_of cs k) None ≡ get_or values (condition_of cs k) None =
        ap (λ y. get_or y (condition_of cs k) None) put
        ∙ get_or-set_other values index (condition_of cs k) (Some that.place) None differ in
        rw same_place (record {
          so_far = w.so_far;
          there = w.there;
          same = w.same ∙ ap (last_from k w.so_far) that.is ∙ last_other k that.name w.so_far that.val that.others q;
        })

    pub gather_on : Gathering m d cs before next t ms
    gather_on = record {
      size = ap length put ∙ length-set values index (Some that.place) ∙ g.size;
      others = that.others;
      walk = that.walk;
      each = λ k o a h. by k o a h (equal that.name k) refl;
    }
      where
        by : (k : Text) (o : Option Json) → condition_of cs k < 256
            → StandsIf m d (get_or before (condition_of cs k) None) o
            → (u : Bool) → equal that.name k ≡ u → Gathered m d
            (get_or next (condition_of cs k) None) k o that.others ms
        by k o a h true q = let p = equal_true that.name k q in own (here k o a h p) k a p
        by k o a h false q = other k o a h q
