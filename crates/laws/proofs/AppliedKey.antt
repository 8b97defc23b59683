-- THE KEY THAT APPLIES: what PACKAGE_IMPORTS_EXPORTS_RESOLVE chooses of a map with distinct keys. Where the subpath is no literal key, the chosen key
-- matches, comes before every other key that matches, and is the same in every order; none is chosen exactly where none matches or the
-- subpath ends in "/". The target is that of the chosen key.
use Rattle.std.proofs.Math.Path.{◌≡◌, refl, sym, ap}
use Rattle.std.proofs.Common.{◌∙◌, arith, true≢false, inl, inr}
use Prim.Native.Nat.{ℕ, Ordering}
use Rattle.std.specs.Prelude.{Bool, ◌↔◌, ◌⊎◌, if◌then◌else◌}
use Rattle.std.proofs.Math.Bool.{true, false}
use mathlib.Core.List.{List, Memᴰ, Permᴰ}
use Rattle.std.proofs.Math.Option.{Option, none, some}
use Rattle.definition.specs.Text.{Text, text, equal, ends_with}
use Rattle.definition.specs.Json.{Json}
use Rattle.definition.specs.Exports.{Context, Entry, Resolved, nothing, is_gt, PATTERN_KEY_COMPARE, pattern_match, best, PACKAGE_TARGET_RESOLVE, literal, Selected, as_selected, literal_or, select, key_of, chosen_key, selected_resolve, PACKAGE_IMPORTS_EXPORTS_RESOLVE}
use Rattle.laws.specs.ChosenKeyLaws.{Functional}
use Rattle.laws.specs.ChosenKey.{Matches}
use Rattle.laws.specs.AppliedKey.{IsKey, NoneMatches, Chooses}
use Rattle.laws.proofs.ChosenKey.{are_matches, chosen, none_matches, none_chosen}
use Rattle.laws.specs.KeyOrderLaws.{rank, compare_rank}
use Rattle.laws.specs.TextLaws.{equal_true, equal_refl}
use Rattle.std.proofs.Math.Dec.{ltb}
use borrow.Author.Tests.{ltb-true}
use Rattle.laws.specs.ExportsOrderLaws.{select_perm}

-- what is selected where the subpath is no literal key
missed : (mk : Text) (es : List Entry) → literal mk es ≡ none → select mk es ≡ (if ends_with (text "/") mk then none else as_selected mk (best mk none es))
unfolding select literal_or
missed mk es miss = rw miss

-- where a key is chosen, it is that of the best entry
module _ (mk k : Text) where
  from_best : (b : Bool) (o : Option Entry) → key_of (if b then none else as_selected mk o) ≡ some k → (e : Entry) × ((o ≡ some e) × (e.key ≡ k))
  unfolding key_of as_selected
  from_best true o h = absurd (let z : ◌≡◌ {A = ℕ} 0 1 = cc in omega arith)
  from_best false none h = absurd (let z : ◌≡◌ {A = ℕ} 0 1 = cc in omega arith)
  from_best false (some e) h = (e, (refl, cc))

module _ (mk : Text) (es : List Entry) (distinct : Functional es) (miss : literal mk es ≡ none) where
  best_of : (k : Text) → chosen_key mk es ≡ some k → (e : Entry) × ((best mk none es ≡ some e) × (e.key ≡ k))
  unfolding chosen_key
  best_of k h = from_best mk k (ends_with (text "/") mk) (best mk none es) (rw (missed mk es miss) at h)

  pub chosen_matches : (k : Text) → chosen_key mk es ≡ some k → IsKey k es × Matches mk k
  chosen_matches k h =
      let b = best_of k h in
      let c = chosen mk es distinct b.0 b.1.0 in
      ((b.0, (c.member, b.1.1)), rw b.1.1 at c.matching)

  pub chosen_preferred : (k : Text) → chosen_key mk es ≡ some k → (f : Text) → IsKey f es → Matches mk f → (f ≡ k → ⊥)
      → PATTERN_KEY_COMPARE f k ≡ Ordering.gt
  chosen_preferred k h f i m n =
      let b = best_of k h in
      let c = chosen mk es distinct b.0 b.1.0 in
      rw (← i.1.1, ← b.1.1) (c.preferred i.0 i.1.0 (rw (← i.1.1) at m) (λ e. n (sym i.1.1 ∙ (e ∙ b.1.1))))

  pub none_chosen_exactly : chosen_key mk es ≡ none ↔ (NoneMatches mk es ⊎ (ends_with (text "/") mk ≡ true))
  none_chosen_exactly = (there, back)
    where
      nothing_best : (o : Option Entry) → key_of (as_selected mk o) ≡ none → o ≡ none
      nothing_best none h = refl
      nothing_best (some e) h = unfold key_of as_selected in (absurd (let z : ◌≡◌ {A = ℕ} 0 1 = cc in omega arith))

      by : (b : Bool) → ends_with (text "/") mk ≡ b → key_of (if b then none else as_selected mk (best mk none es)) ≡ none → NoneMatches mk es ⊎ (ends_with (text "/") mk ≡ true)
      by true e h = inr e
      by false e h = inl (none_matches mk es distinct (nothing_best (best mk none es) h))

      there : chosen_key mk es ≡ none → NoneMatches mk es ⊎ (ends_with (text "/") mk ≡ true)
      there h = by (ends_with (text "/") mk) refl (unfold chosen_key in (rw (missed mk es miss) at h))

      none_or : (b : Bool) → key_of (if b then none else as_selected mk none) ≡ none
      none_or true = unfold key_of in refl
      none_or false = unfold key_of as_selected in refl

      back : NoneMatches mk es ⊎ (ends_with (text "/") mk ≡ true) → chosen_key mk es ≡ none
      back (inl h) = unfold chosen_key in (rw (missed mk es miss, none_chosen mk es distinct h) (none_or (ends_with (text "/") mk)))
      back (inr e) = unfold chosen_key key_of in (rw (missed mk es miss, e))

-- the same key in every order of the map, where the subpath is a literal key too
pub same_key : (mk : Text) (es : List Entry) → Functional es → {fs : List Entry} → Permᴰ es fs → chosen_key mk es ≡ chosen_key mk fs
unfolding chosen_key
same_key mk es distinct d = ap key_of (select_perm mk es distinct d)

-- THE FOUR TOGETHER fix the key: whatever chooses, for a map with distinct keys and a subpath that is no literal key, a key that matches and comes before
-- every other that matches, and none exactly where none matches or the subpath ends in "/", chooses as the lookup does

module _ (mk : Text) (es : List Entry) (distinct : Functional es) (miss : literal mk es ≡ none) where
  pub lookup_chooses : Chooses mk es (chosen_key mk es)
  lookup_chooses = record {
    matching = chosen_matches mk es distinct miss;
    preferred = chosen_preferred mk es distinct miss;
    exactly = none_chosen_exactly mk es distinct miss;
  }

  -- of two keys that match, not each comes behind the other
  not_both : (a b : Text) → Matches mk a → Matches mk b → (a ≡ b → ⊥) → PATTERN_KEY_COMPARE a b ≡ Ordering.gt → PATTERN_KEY_COMPARE b a ≡ Ordering.gt → ⊥
  unfolding is_gt
  not_both a b ma mb n p q =
      let x : ltb (rank mk a) (rank mk b) ≡ true = sym (compare_rank mk a b (are_matches mk a ma) (are_matches mk b mb) n) ∙ ap is_gt p in
      let y : ltb (rank mk b) (rank mk a) ≡ true = sym (compare_rank mk b a (are_matches mk b mb) (are_matches mk a ma) (λ e. n (sym e))) ∙ ap is_gt q in
      omega (arith, ltb-true (rank mk a) (rank mk b) x, ltb-true (rank mk b) (rank mk a) y)

  -- where one choice is none, so is the other
  none_too : (choice other : Option Text) → Chooses mk es choice → Chooses mk es other → choice ≡ none → other ≡ none
  none_too choice other a b h = b.exactly.1 (a.exactly.0 h)

  pub one_choice : (choice : Option Text) → Chooses mk es choice → choice ≡ chosen_key mk es
  one_choice choice a = by choice (chosen_key mk es) a lookup_chooses
    where
      same : (k l : Text) (e : Bool) → equal k l ≡ e → Chooses mk es (some k) → Chooses mk es (some l) → some k ≡ some l
      same k l true h a b = ap some (equal_true k l h)
      same k l false h a b =
          let n : k ≡ l → ⊥ = λ p. true≢false (sym (rw p (equal_refl l)) ∙ h) in
          let ka = a.matching k refl in
          let lb = b.matching l refl in
          absurd (not_both l k lb.1 ka.1 (λ p. n (sym p)) (a.preferred k refl l lb.0 lb.1 (λ p. n (sym p))) (b.preferred l refl k ka.0 ka.1 n))

      by : (c d : Option Text) → Chooses mk es c → Chooses mk es d → c ≡ d
      by none d a b = sym (none_too none d a b refl)
      by (some k) none a b = none_too none (some k) b a refl
      by (some k) (some l) a b = same k l (equal k l) refl a b

-- THE TARGET ------------------------------------------------------------------------------------------------------------------------------

module _ (url : Text) (conditions : List Text) (mk : Text) (es : List Entry) (c : Context) where
  -- the target of a key, resolved with the part that it matched
  abbrev pub target_of : Text → Option Text → Json → Resolved
  target_of k matched j = PACKAGE_TARGET_RESOLVE (record { package_url = url; key = k; matched = matched; conditions = conditions }) j c

  pub literal_target : (j : Json) → ends_with (text "/") mk ≡ false → literal mk es ≡ some j
      → (chosen_key mk es ≡ some mk) × (PACKAGE_IMPORTS_EXPORTS_RESOLVE url conditions mk es c ≡ target_of mk none j)
  unfolding chosen_key key_of PACKAGE_IMPORTS_EXPORTS_RESOLVE selected_resolve select literal_or
  literal_target j e h = (rw (e, h), rw (e, h))

  pub chosen_target : Functional es → literal mk es ≡ none → (k : Text) → chosen_key mk es ≡ some k → (e : Entry) → Memᴰ e es → e.key ≡ k
      → PACKAGE_IMPORTS_EXPORTS_RESOLVE url conditions mk es c ≡ target_of k (pattern_match mk k) e.target
  chosen_target distinct miss k h e m i = by (ends_with (text "/") mk) (best mk none es) refl refl
    where
      b : (e : Entry) × ((best mk none es ≡ some e) × (e.key ≡ k))
      b = best_of mk es distinct miss k h

      same : b.0 ≡ e
      same = distinct b.0 e (chosen mk es distinct b.0 b.1.0).member m (b.1.1 ∙ sym i)

      by : (s : Bool) (o : Option Entry) → ends_with (text "/") mk ≡ s → best mk none es ≡ o
          → PACKAGE_IMPORTS_EXPORTS_RESOLVE url conditions mk es c ≡ target_of k (pattern_match mk k) e.target
      by true o x y = absurd (no (unfold chosen_key in (rw (missed mk es miss, x) at h)))
        where
          no : key_of none ≡ some k → ⊥
          no z = unfold key_of in (let q : ◌≡◌ {A = ℕ} 0 1 = cc in omega arith)
      by false o x y =
          unfold PACKAGE_IMPORTS_EXPORTS_RESOLVE selected_resolve as_selected in (rw (missed mk es miss, x, b.1.0, same, i))

  pub no_target : chosen_key mk es ≡ none → PACKAGE_IMPORTS_EXPORTS_RESOLVE url conditions mk es c ≡ record { context = c; outcome = nothing }
  no_target h = by (select mk es) refl (unfold chosen_key in h)
    where
      by : (o : Option Selected) → select mk es ≡ o → key_of o ≡ none → PACKAGE_IMPORTS_EXPORTS_RESOLVE url conditions mk es c ≡ record { context = c; outcome = nothing }
      by none x y = unfold PACKAGE_IMPORTS_EXPORTS_RESOLVE selected_resolve in (rw x)
      by (some m) x y = unfold key_of in (absurd (let z : ◌≡◌ {A = ℕ} 0 1 = cc in omega arith))
