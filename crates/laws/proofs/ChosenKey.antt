-- THE BEST KEY of an exports map, with "matches" written without the search: it matches, it is preferred to every other key that matches, and there
-- is none only where none matches. What that means for the key that applies, and that it is the same in every order: AppliedKey.
use Rattle.std.proofs.Math.Path.{◌≡◌, refl, subst}
use Rattle.std.proofs.Common.{sym, ◌∙◌, ap, true≢false, inl, inr, length-append, take-append-drop, length-take, length-drop, drop-drop}
use Prim.Native.Nat.{ℕ, suc, ◌+◌, ◌-◌, ◌≤◌, ◌<◌, Ordering}
use native.Mathlib.Omega.{arith}
use Rattle.std.specs.Prelude.{Bool, not, ◌&&◌, ◌||◌, ◌⊎◌, length, take, leb, if◌then◌else◌}
use Rattle.std.proofs.Math.Bool.{true, false}
use Rattle.std.proofs.lemmas.Bool.{false≢true}
use mathlib.Core.List.{List, [], ◌∷◌, ◌++◌, append_assoc, Memᴰ}
use Rattle.std.proofs.Math.Option.{Option, none, some}
use Rattle.std.proofs.Math.ListN.{drop}
use Rattle.std.proofs.Math.Seq.{drop-append_seam}
use Rattle.std.proofs.Math.Dec.{eqb, ltb}
use borrow.Author.Tests.{eq-eqb, eqb-true, eqb-false, leb-true, le-leb, ltb-true, ltb-false, lt-ltb, not-true}
use Rattle.definition.specs.Text.{Text, text, star, equal, starts_with, ends_with, contains, before, after}
use Rattle.laws.specs.TextLaws.{and_true, equal_true, equal_refl, starts_with_take, before_after, before_after_length}
use Rattle.definition.specs.Exports.{Entry, is_gt, PATTERN_KEY_COMPARE, star_match, is_subpath_key, pattern_match, is_match, matches, better, best}
use Rattle.laws.specs.KeyOrderLaws.{Kind, pattern, folder, kind_of_lem, some_if, none_if, either_if, or-true, rank, rank_inj, compare_rank}
use Rattle.laws.specs.FoldLaws.{greater}
use Rattle.laws.specs.ChosenKeyLaws.{Functional, score, by_score, Best, keeps, better_is}
use Rattle.laws.specs.ChosenKey.{Matches, by_star, by_folder}

-- Texts ---------------------------------------------------------------------------------------------------------------------------

module _ (c : ℕ) where
  before_without : (s : List ℕ) → contains c (before c s) ≡ false
  unfolding before contains
  before_without [] = refl
  before_without (b ∷ s) = go (eqb b c) refl (before_without s)
    where
      go : (u : Bool) → eqb b c ≡ u → contains c (before c s) ≡ false → contains c (if u then [] else b ∷ before c s) ≡ false
      go true e h = refl
      go false e h = rw e h

  contains_seam : (s t : List ℕ) → contains c (s ++ c ∷ t) ≡ true
  unfolding contains
  contains_seam [] t = rw (eq-eqb c c refl)
  contains_seam (b ∷ s) t = go (eqb b c) (contains_seam s t)
    where
      go : (u : Bool) → contains c (s ++ c ∷ t) ≡ true → u || contains c (s ++ c ∷ t) ≡ true
      go true h = refl
      go false h = h

  before_seam : (s t : List ℕ) → contains c s ≡ false → before c (s ++ c ∷ t) ≡ s
  unfolding before contains
  before_seam [] t h = rw (eq-eqb c c refl)
  before_seam (b ∷ s) t h = go (eqb b c) refl (before_seam s t)
    where
      go : (u : Bool) → eqb b c ≡ u → (contains c s ≡ false → before c (s ++ c ∷ t) ≡ s) → before c (b ∷ s ++ c ∷ t) ≡ b ∷ s
      go true e ih = absurd (true≢false (rw e at h))
      go false e ih = rw e (ap (λ z. b ∷ z) (ih (rw e at h)))

  after_seam : (s t : List ℕ) → contains c s ≡ false → after c (s ++ c ∷ t) ≡ t
  unfolding after
  after_seam s t h = rw (before_seam s t h) (skip s)
    where
      skip : (s : List ℕ) → drop (suc (length s)) (s ++ c ∷ t) ≡ t
      skip [] = refl
      skip (b ∷ s) = skip s

starts_append : (p s : List ℕ) → starts_with p (p ++ s) ≡ true
unfolding starts_with
starts_append [] s = refl
starts_append (a ∷ p) s = rw (eq-eqb a a refl, starts_append p s)

ends_append : (s t : List ℕ) → ends_with t (s ++ t) ≡ true
unfolding ends_with
ends_append s t =
    let n : length (s ++ t) - length t ≡ length s = omega (arith, length-append s t) in
    rw (n, drop-append_seam s t, equal_refl t, le-leb (length t) (length (s ++ t)) (omega (arith, length-append s t)))

-- "Matches" is what the search tests ------------------------------------------------------------------------------------------------

subpath_if : (b : Bool) (x : Option (List ℕ)) → is_match (if not b then none else x) ≡ true → b ≡ true
unfolding is_match
subpath_if true x h = refl
subpath_if false x h = absurd (false≢true h)

module _ (mk k : Text) where
  -- the base, the part and the trailer, cut from the match key
  cut : before star k ≡ take (length (before star k)) mk → after star k ≡ drop (length mk - length (after star k)) mk → length (before star k) + length (after star k) ≤ length mk
      → mk ≡ before star k ++ (take (length mk - length (before star k) - length (after star k)) (drop (length (before star k)) mk) ++ after star k)
  cut p q l =
      let b = length (before star k) in
      let t = length (after star k) in
      let n : b + (length mk - b - t) ≡ length mk - t = omega arith in
      let x : drop (length mk - b - t) (drop b mk) ≡ after star k = drop-drop (length mk - b - t) b mk ∙ (ap (λ i. drop i mk) n ∙ sym q) in
      let y : take (length mk - b - t) (drop b mk) ++ after star k ≡ drop b mk = ap (λ z. take (length mk - b - t) (drop b mk) ++ z) (sym x) ∙ take-append-drop (length mk - b - t) (drop b mk) in
      sym (take-append-drop b mk) ∙ (ap (λ z. z ++ drop b mk) (sym p) ∙ ap (λ z. before star k ++ z) (sym y))

  pub matches_are : matches mk k ≡ true → Matches mk k
  unfolding matches pattern_match star_match
  matches_are h = go (either_if (contains star k) _ _ (none_if (is_subpath_key k) _ h))
    where
      sub : is_subpath_key k ≡ true
      sub = subpath_if (is_subpath_key k) _ h

      star_key : Kind mk k → contains star k ≡ true → contains star (after star k) ≡ false → (equal (after star k) [] ≡ true) ⊎ (leb (length k) (length mk) && ends_with (after star k) mk ≡ true) → Matches mk k
      star_key (folder c p l) d n e = absurd (true≢false (sym d ∙ c))
      star_key (pattern c p l q m) d n e =
          let w : k ≡ before star k ++ star ∷ after star k = before_after star k d in
          let g : length k ≡ suc (length (before star k) + length (after star k)) = before_after_length star k d in
          let i : length (before star k) + length (after star k) ≤ length mk = omega arith in
          let part : Text = take (length mk - length (before star k) - length (after star k)) (drop (length (before star k)) mk) in
          let s : is_subpath_key (before star k ++ star ∷ after star k) ≡ true = rw w at sub in
          subst (Matches mk) (sym w) (by_star (before star k) part (after star k) s (before_without star k) n (room e) (cut p q i))
        where
          room : (equal (after star k) [] ≡ true) ⊎ (leb (length k) (length mk) && ends_with (after star k) mk ≡ true)
              → (after star k ≡ []) ⊎ (1 ≤ length (take (length mk - length (before star k) - length (after star k)) (drop (length (before star k)) mk)))
          room (inl e) = inl (equal_true _ _ e)
          room (inr e) =
              inr (omega (arith, leb-true (length k) (length mk) (and_true (leb (length k) (length mk)) (ends_with (after star k) mk) e).0, before_after_length star k d, length-take (length mk - length (before star k) - length (after star k)) (drop (length (before star k)) mk), length-drop (length (before star k)) mk))

      go : ((contains star k ≡ true) × (is_match (star_match mk k (before star k) (after star k)) ≡ true)) ⊎ ((contains star k ≡ false) × (is_match (if ends_with (text "/") k && starts_with k mk then some (drop (length k) mk) else none) ≡ true)) → Matches mk k
      go (inl p) =
          let whole : starts_with (before star k) mk && not (contains star (after star k)) && (equal (after star k) [] || (leb (length k) (length mk) && ends_with (after star k) mk)) ≡ true = some_if _ _ p.1 in
          let t : (starts_with (before star k) mk && not (contains star (after star k)) ≡ true) × (equal (after star k) [] || (leb (length k) (length mk) && ends_with (after star k) mk) ≡ true) = and_true _ _ whole in
          star_key (kind_of_lem mk k h) p.0 (not-true (contains star (after star k)) (and_true (starts_with (before star k) mk) (not (contains star (after star k))) t.0).1) (or-true _ _ t.1)
      go (inr p) =
          let both : (ends_with (text "/") k ≡ true) × (starts_with k mk ≡ true) = and_true (ends_with (text "/") k) (starts_with k mk) (some_if _ _ p.1) in
          by_folder k (drop (length k) mk) sub p.0 both.0 (sym (take-append-drop (length k) mk) ∙ ap (λ z. z ++ drop (length k) mk) (sym (starts_with_take k mk both.1)))

pub are_matches : (mk k : Text) → Matches mk k → matches mk k ≡ true
unfolding matches pattern_match star_match is_match
are_matches mk k (by_star base part trailer sub none_before none-behind room e) =
    rw (sub, contains_seam star base trailer, before_seam star base trailer none_before, after_seam star base trailer none_before, e, starts_append base (part ++ trailer), none-behind) (ends room)
  where
    ends : (trailer ≡ []) ⊎ (1 ≤ length part)
        → is_match (if equal trailer [] || (leb (length (base ++ star ∷ trailer)) (length (base ++ (part ++ trailer))) && ends_with trailer (base ++ (part ++ trailer)))
        then some (take (length (base ++ (part ++ trailer)) - length base - length trailer) (drop (length base) (base ++ (part ++ trailer)))) else none) ≡ true
    ends (inl z) = rw (z, equal_refl [])
    ends (inr n) =
        let l : leb (length (base ++ star ∷ trailer)) (length (base ++ (part ++ trailer))) ≡ true = le-leb (length (base ++ star ∷ trailer)) (length (base ++ (part ++ trailer))) (omega (arith, length-append base (star ∷ trailer), length-append base (part ++ trailer), length-append part trailer)) in
        let w : ends_with trailer (base ++ (part ++ trailer)) ≡ true = rw (← (append_assoc base part trailer)) (ends_append (base ++ part) trailer) in
        rw (l, w) (either (equal trailer []))
      where
        either : (u : Bool) → is_match (if u || true then some (take (length (base ++ (part ++ trailer)) - length base - length trailer) (drop (length base) (base ++ (part ++ trailer)))) else none) ≡ true
        either true = refl
        either false = refl
are_matches mk k (by_folder key part sub no_star slash e) = rw (sub, no_star, slash, e, starts_append key part)

-- The chosen key --------------------------------------------------------------------------------------------------------------------

is_gt_true : (o : Ordering) → is_gt o ≡ true → o ≡ Ordering.gt
unfolding is_gt
is_gt_true Ordering.gt h = refl
is_gt_true Ordering.eq h = absurd (false≢true h)
is_gt_true Ordering.lt h = absurd (false≢true h)

module _ (mk : Text) (es : List Entry) (functional : Functional es) where
  -- one step goes no lower, and not below a key that matches
  up : (b : Option Entry) (e : Entry) → Best mk es functional b → Memᴰ e es
      → (score mk b ≤ score mk (better mk b e)) × (matches mk e.key ≡ true → score mk (some e) ≤ score mk (better mk b e))
  unfolding by_score greater
  up b e i m = rw (better_is mk es functional b e i m) (go (matches mk e.key) (ltb (score mk b) (score mk (some e))) refl)
    where
      go : (t u : Bool) → ltb (score mk b) (score mk (some e)) ≡ u
          → (score mk b ≤ score mk (if t then (if u then some e else b) else b)) × (t ≡ true → score mk (some e) ≤ score mk (if t then (if u then some e else b) else b))
      go true true h = (omega (arith, ltb-true (score mk b) (score mk (some e)) h), λ _. omega arith)
      go true false h = (omega arith, λ _. ltb-false (score mk b) (score mk (some e)) h)
      go false u h = (omega arith, λ p. absurd (false≢true p))

  record Top (b r : Option Entry) (l : List Entry) : Type 0 where
    best_is : Best mk es functional r
    above : score mk b ≤ score mk r
    over : (f : Entry) → Memᴰ f l → matches mk f.key ≡ true → score mk (some f) ≤ score mk r

  top : (b : Option Entry) (l : List Entry) → Best mk es functional b → ((e : Entry) → Memᴰ e l → Memᴰ e es) → Top b (best mk b l) l
  unfolding best
  top b [] i p = record { best_is = i; above = omega arith; over = λ f m h. absurd (mathlib.Core.List.Memᴰ.not-nil m) }
  top b (e ∷ l) i p =
      let m : Memᴰ e es = p e (mathlib.Core.List.Memᴰ.head refl) in
      let t : Top (better mk b e) (best mk (better mk b e) l) l = top (better mk b e) l (keeps mk es functional b e i m) (λ f n. p f (mathlib.Core.List.Memᴰ.tail n)) in
      let u = up b e i m in
      record {
        best_is = t.best_is;
        above = let x = t.above in let y = u.0 in omega arith;
        over = λ f n h. of f n h u t;
      }
    where
      of : (f : Entry) → Memᴰ f (e ∷ l) → matches mk f.key ≡ true
          → (score mk b ≤ score mk (better mk b e)) × (matches mk e.key ≡ true → score mk (some e) ≤ score mk (better mk b e))
          → Top (better mk b e) (best mk (better mk b e) l) l → score mk (some f) ≤ score mk (best mk (better mk b e) l)
      of f (mathlib.Core.List.Memᴰ.head q) h u t =
          let x : matches mk e.key ≡ true = rw q at h in
          let y = u.1 x in
          let z = t.above in
          rw q (omega arith)
      of f (mathlib.Core.List.Memᴰ.tail n) h u t = t.over f n h

  found_top : Top none (best mk none es) es
  found_top = top none es (unfold Best in tt) (λ e m. m)

  -- THE CHOSEN ENTRY: it is one of the map's, its key matches, and it comes before every other key that matches
  pub record Chosen (e : Entry) : Type 0 where
    pub member : Memᴰ e es
    pub matching : Matches mk e.key
    pub preferred : (f : Entry) → Memᴰ f es → Matches mk f.key → (f.key ≡ e.key → ⊥) → PATTERN_KEY_COMPARE f.key e.key ≡ Ordering.gt

  chosen_at : (r : Option Entry) (e : Entry) → Top none r es → r ≡ some e → Chosen e
  unfolding Best score
  chosen_at none e t q = absurd (let z : ◌≡◌ {A = ℕ} 0 1 = cc in omega arith)
  chosen_at (some d) e t q =
      let x : d ≡ e = cc in
      subst Chosen x (record {
        member = t.best_is.0;
        matching = matches_are mk d.key t.best_is.1;
        preferred = λ f m h n.
            let g : matches mk f.key ≡ true = are_matches mk f.key h in
            let s : suc (rank mk f.key) ≤ suc (rank mk d.key) = t.over f m g in
            is_gt_true _ (compare_rank mk f.key d.key g t.best_is.1 n ∙ lt-ltb _ _ (below f.key d.key g t.best_is.1 n (omega arith)));
      })
    where
      below : (a b : Text) → matches mk a ≡ true → matches mk b ≡ true → (a ≡ b → ⊥) → rank mk a ≤ rank mk b → rank mk a < rank mk b
      below a b h k n l = go (eqb (rank mk a) (rank mk b)) refl
        where
          go : (u : Bool) → eqb (rank mk a) (rank mk b) ≡ u → rank mk a < rank mk b
          go true e = absurd (n (rank_inj mk a b h k (eqb-true (rank mk a) (rank mk b) e)))
          go false e = let d = eqb-false (rank mk a) (rank mk b) e in omega arith

  pub chosen : (e : Entry) → best mk none es ≡ some e → Chosen e
  chosen e q = chosen_at (best mk none es) e found_top q

  -- none is chosen exactly where none matches
  pub none_matches : best mk none es ≡ none → (f : Entry) → Memᴰ f es → Matches mk f.key → ⊥
  unfolding score
  none_matches q f m h =
      let x : score mk (some f) ≤ score mk (best mk none es) = found_top.over f m (are_matches mk f.key h) in
      let y : score mk (some f) ≤ score mk none = rw q at x in
      omega arith

  pub none_chosen : ((f : Entry) → Memᴰ f es → Matches mk f.key → ⊥) → best mk none es ≡ none
  none_chosen h = go (best mk none es) refl
    where
      go : (r : Option Entry) → best mk none es ≡ r → r ≡ none
      go none q = refl
      go (some e) q = let c = chosen e q in absurd (h e c.member c.matching)
