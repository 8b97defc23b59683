-- The search of a listing: over any bytes it finds nothing or what the listing has, and over paths that rise what the listing has.
use Rattle.std.specs.Prelude.{◌≡◌, Bool, true, false, ◌&&◌, ◌||◌, List, [], ◌∷◌, ◌⊎◌, eqb, leb, ltb, length, take, if◌then◌else◌}
use Rattle.std.proofs.Math.Path.{refl, ap}
use Rattle.std.proofs.Common.{sym, ◌∙◌, true≢false, inl, inr, eq-eqb, lt-ltb, le-ltb}
use Prim.Native.Nat.{ℕ, zero, suc, ◌+◌, ◌*◌, ◌≤◌, ◌<◌, min}
use native.Mathlib.Omega.{arith}
use Rattle.definition.specs.Text.{Text, equal, smaller, all}
use Rattle.definition.specs.Listing.{Entry, no_entry, directory_entry, file_entry, entry_count, directory_mark, contents_length, Row, rows, rising, first_is_root, is_path, parent_is_directory, entry_of, entry_in, entry_at, found_in, found_at, Span, span_of, place_in, place_at, passes30, passes31, passes32, accepted}
use Rattle.definition.specs.Ask.{absent, file, state_of}
use Rattle.laws.specs.TextLaws.{and_true, equal_refl}
use Rattle.laws.specs.ListingSteps.{path_length_at, contents_mark_at, rows_at, rows_begin, rows_end, rows_place, part, row_by, part_length, at_or_under, rising_after, rising_after_lem, match_inside}
use Rattle.laws.specs.ListingOrder.{smaller_trans, smaller_unequal, after_no_entry}

-- THE ORDER OF TEXTS: of two that are not equal, one is smaller
below_cases : (x y : ℕ) (b : Bool) → ltb x y || (eqb x y && b) ≡ false → (y < x) ⊎ ((x ≡ y) × (b ≡ false))
below_cases x y b h = go (at_or_under x y) (at_or_under y x)
  where
    go : (x ≤ y) ⊎ (y < x) → (y ≤ x) ⊎ (x < y) → (y < x) ⊎ ((x ≡ y) × (b ≡ false))
    go (inr u) v = inl u
    go (inl u) (inr v) = absurd (true≢false (sym (rw (lt-ltb x y v)) ∙ h))
    go (inl u) (inl v) =
        let e : x ≡ y = omega arith in
        inr (e, sym (rw (le-ltb x y v, eq-eqb x y e)) ∙ h)

pub not_smaller : (a b : Text) → smaller a b ≡ false → (equal a b ≡ true) ⊎ (smaller b a ≡ true)
unfolding smaller equal
not_smaller [] [] h = inl refl
not_smaller [] (y ∷ b) h = absurd (true≢false h)
not_smaller (x ∷ a) [] h = inr refl
not_smaller (x ∷ a) (y ∷ b) h = go (below_cases x y (smaller a b) h) (not_smaller a b)
  where
    go : (y < x) ⊎ ((x ≡ y) × (smaller a b ≡ false)) → (smaller a b ≡ false → (equal a b ≡ true) ⊎ (smaller b a ≡ true))
        → (eqb x y && equal a b ≡ true) ⊎ (ltb y x || (eqb y x && smaller b a) ≡ true)
    go (inl u) ih = inr (rw (lt-ltb y x u))
    go (inr u) ih = more (ih u.1)
      where
        more : (equal a b ≡ true) ⊎ (smaller b a ≡ true) → (eqb x y && equal a b ≡ true) ⊎ (ltb y x || (eqb y x && smaller b a) ≡ true)
        more (inl e) = inl (rw (eq-eqb x y u.0, e))
        more (inr e) =
            let z : x ≤ y = omega (arith, u.0) in
            inr (rw (le-ltb y x z, eq-eqb y x (sym u.0), e))

module _ (a b : Text) where
  pub smaller_not : smaller a b ≡ true → smaller b a ≡ false
  smaller_not h = go (smaller b a) refl
    where
      go : (t : Bool) → smaller b a ≡ t → smaller b a ≡ false
      go false e = e
      go true e = absurd (true≢false (sym (equal_refl a) ∙ (smaller_unequal a a (smaller_trans a b a h e)).0))

  pub equal_not_smaller : equal a b ≡ true → smaller a b ≡ false
  equal_not_smaller h = go (smaller a b) refl
    where
      go : (t : Bool) → smaller a b ≡ t → smaller a b ≡ false
      go false e = e
      go true e = absurd (true≢false (sym h ∙ (smaller_unequal a b e).0))

-- ONE ENTRY of the search
module _ {rs : List Row} {r : Row} {q : List Row} (p : Text) (e : rs ≡ r ∷ q) where
  pub found_below : smaller r.path p ≡ true → found_in rs p ≡ found_in q p
  unfolding found_in
  found_below h = rw (e, h)

  pub found_same : equal r.path p ≡ true → found_in rs p ≡ entry_of r
  unfolding found_in
  found_same h = rw (e, equal_not_smaller r.path p h, h)

  pub found_past : smaller r.path p ≡ false → equal r.path p ≡ false → found_in rs p ≡ no_entry
  unfolding found_in
  found_past h k = rw (e, h, k)

pub found_end : {rs : List Row} (p : Text) → rs ≡ [] → found_in rs p ≡ no_entry
unfolding found_in
found_end p e = rw e

-- OVER ANY ENTRIES: nothing, or what they have
pub found_either : (rs : List Row) (p : Text) → (found_in rs p ≡ no_entry) ⊎ (found_in rs p ≡ entry_in rs p)
unfolding found_in entry_in
found_either [] p = inl refl
found_either (r ∷ rs) p = go (smaller r.path p) (equal r.path p) refl refl (found_either rs p)
  where
    here : Entry (List ℕ)
    here = if smaller r.path p then found_in rs p else if equal r.path p then entry_of r else no_entry

    go : (s t : Bool) → smaller r.path p ≡ s → equal r.path p ≡ t → (found_in rs p ≡ no_entry) ⊎ (found_in rs p ≡ entry_in rs p)
        → (here ≡ no_entry) ⊎ (here ≡ (if equal r.path p then entry_of r else entry_in rs p))
    go true t u v (inl x) = inl (rw u x)
    go true t u v (inr x) = inr (rw (u, (smaller_unequal _ _ u).0) x)
    go false true u v ih = inr (rw (u, v))
    go false false u v ih = inl (rw (u, v))

-- OVER PATHS THAT RISE: what they have
rising_rest : (r : Row) (rs : List Row) → rising (r ∷ rs) ≡ true → rising rs ≡ true
unfolding rising_after rising
rising_rest r [] h = refl
rising_rest r (q ∷ rs) h =
    let a : smaller r.path q.path && rising_after q.path rs ≡ true = sym (rising_after_lem r (q ∷ rs)) ∙ h in
    rising_after_lem q rs ∙ (and_true (smaller r.path q.path) (rising_after q.path rs) a).1

pub found_rising : (rs : List Row) (p : Text) → rising rs ≡ true → found_in rs p ≡ entry_in rs p
unfolding found_in entry_in
found_rising [] p h = refl
found_rising (r ∷ rs) p h = go (smaller r.path p) (equal r.path p) refl refl (found_rising rs p (rising_rest r rs h))
  where
    past : (equal r.path p ≡ true) ⊎ (smaller p r.path ≡ true) → equal r.path p ≡ false → no_entry ≡ entry_in rs p
    past (inl u) v = absurd (true≢false (sym u ∙ v))
    past (inr u) v = sym (after_no_entry r.path p rs (sym (rising_after_lem r rs) ∙ h) u)

    go : (s t : Bool) → smaller r.path p ≡ s → equal r.path p ≡ t → found_in rs p ≡ entry_in rs p
        → (if smaller r.path p then found_in rs p else if equal r.path p then entry_of r else no_entry) ≡ (if equal r.path p then entry_of r else entry_in rs p)
    go true t u v ih = rw (u, (smaller_unequal _ _ u).0) ih
    go false true u v ih = rw (u, v)
    go false false u v ih = rw (u, v) (past (not_smaller _ _ u) v)

-- OVER BYTES
module _ (l : List ℕ) (p : Text) where
  pub found_or_none : (found_at l p ≡ no_entry) ⊎ (found_at l p ≡ entry_at l p)
  unfolding found_at entry_at
  found_or_none = found_either (rows l) p

  pub found_folder : found_at l p ≡ directory_entry → entry_at l p ≡ directory_entry
  found_folder e = go found_or_none
    where
      go : (found_at l p ≡ no_entry) ⊎ (found_at l p ≡ entry_at l p) → entry_at l p ≡ directory_entry
      go (inl x) = cc
      go (inr x) = sym x ∙ e

  none : state_of {M = List ℕ} no_entry ≡ absent
  unfolding state_of
  none = refl

  pub found_file : state_of (found_at l p) ≡ file → state_of (entry_at l p) ≡ file
  found_file e = go found_or_none
    where
      go : (found_at l p ≡ no_entry) ⊎ (found_at l p ≡ entry_at l p) → state_of (entry_at l p) ≡ file
      go (inl x) =
          let a : state_of (found_at l p) ≡ absent = rw x none in
          let b : absent ≡ file = sym a ∙ e in
          cc
      go (inr x) = sym (ap state_of x) ∙ e

  pub found_accepted : accepted l ≡ true → found_at l p ≡ entry_at l p
  unfolding found_at entry_at accepted passes31
  found_accepted h =
      let rs = rows l in
      let a : (passes30 l && passes31 l ≡ true) × (passes32 l ≡ true) = and_true _ _ h in
      let b : (passes30 l ≡ true) × (passes31 l ≡ true) = and_true _ _ a.0 in
      let c : (first_is_root rs && all (λ r. is_path r.path) rs && rising rs ≡ true) × (all (parent_is_directory rs) rs ≡ true) = and_true _ _ b.1 in
      let d : (first_is_root rs && all (λ r. is_path r.path) rs ≡ true) × (rising rs ≡ true) = and_true _ _ c.0 in
      found_rising rs p d.1

-- THE SEARCH BY PLACES: what stands there is what is found
unfoldable pub viewed : List ℕ → Entry Span → Entry (List ℕ)
viewed l no_entry = no_entry
viewed l directory_entry = directory_entry
viewed l (file_entry s) = file_entry (part l s.start s.end)

abbrev pub span_by : Bool → ℕ → ℕ → Entry Span
span_by d a e = if d then directory_entry else file_entry (record { start = a; end = e })

-- one entry by its ends: its path from `at` to e, its contents from e to x
module _ (l : List ℕ) (p : Text) (i at e x : ℕ) (d : Bool) (h : at ≤ e) (k : e ≤ x) (b : x ≤ length l)
    (rs : rows_at l i at ≡ row_by l at e x d ∷ rows_at l (i + 1) x) where
  path_end : at + length (part l at e) ≡ e
  path_end = omega (arith, part_length l at e h (omega arith))

  contents_end : at + length (part l at e) + length (part l e x) ≡ x
  contents_end = omega (arith, path_end, part_length l e x k b)

  pub here_below : smaller (part l at e) p ≡ true → place_in at (rows_at l i at) p ≡ place_in x (rows_at l (i + 1) x) p
  unfolding place_in
  here_below s = rw (rs, s, contents_end)

  pub here_same : equal (part l at e) p ≡ true → place_in at (rows_at l i at) p ≡ span_by d e x
  unfolding place_in span_of
  here_same s = rw (rs, equal_not_smaller (part l at e) p s, s, contents_end, path_end)

  pub here_past : smaller (part l at e) p ≡ false → equal (part l at e) p ≡ false → place_in at (rows_at l i at) p ≡ no_entry
  unfolding place_in
  here_past s t = rw (rs, s, t)

module _ (l : List ℕ) (p : Text) where
  pub place_begin : (n at : ℕ) → n ≡ entry_count l → at ≡ min (0 + (8 + 8 * n)) (length l) → place_in at (rows_at l 0 at) p ≡ place_at l p
  unfolding place_at
  place_begin n at e h =
      let a : at ≡ min (8 + 8 * entry_count l) (length l) = omega arith in
      ap (λ rs. place_in at rs p) (sym (rows_begin l n at e h)) ∙ ap (λ (k : ℕ). place_in k (rows l) p) a

  pub place_end : (i at : ℕ) → entry_count l ≤ i → place_in at (rows_at l i at) p ≡ no_entry
  unfolding place_in
  place_end i at h = rw (rows_end l i at h)

-- A SEARCH OVER LENGTHS THAT ARE ADDED UP UNCLAMPED: as long as the place lies within the bytes, the rest decides; or at least, where
-- nothing is found among the rest, nothing is found
abbrev pub Stopping : List ℕ → Text → ℕ → ℕ → Type 0
Stopping l p i at = at ≤ length l → place_in at (rows_at l i at) p ≡ place_at l p

abbrev pub Missing : List ℕ → Text → ℕ → ℕ → Type 0
Missing l p i at = at ≤ length l → place_in at (rows_at l i at) p ≡ no_entry → place_at l p ≡ no_entry

module _ (l : List ℕ) (p : Text) where
  pub stop_start : (n : ℕ) → n ≡ entry_count l → 8 + 8 * n ≤ length l → Stopping l p 0 (8 + 8 * n)
  stop_start n e k h = place_begin l p n (8 + 8 * n) e (omega arith)

  pub missing_start : (n : ℕ) → n ≡ entry_count l → 8 + 8 * n ≤ length l → Missing l p 0 (8 + 8 * n)
  missing_start n e k h q = sym (stop_start n e k h) ∙ q

  pub stop_end : (i at : ℕ) → Stopping l p i at → at ≤ length l → entry_count l ≤ i → no_entry ≡ place_at l p
  stop_end i at s h k = sym (place_end l p i at k) ∙ s h

  pub missing_end : (i at : ℕ) → Missing l p i at → at ≤ length l → entry_count l ≤ i → place_at l p ≡ no_entry
  missing_end i at s h k = s h (place_end l p i at k)

module _ (l : List ℕ) (p : Text) (i at e : ℕ) (h : i < entry_count l) (k : e ≡ at + path_length_at l i) where
  -- the entry, if it ends within the bytes; x is where its contents end
  row_here : (x : ℕ) → e ≤ length l → x ≡ min (e + contents_length (contents_mark_at l i)) (length l)
      → rows_at l i at ≡ row_by l at e x (eqb (contents_mark_at l i) directory_mark) ∷ rows_at l (i + 1) x
  row_here x b q = rows_place l i at e x h (omega arith) (omega arith) q

  module _ (s : Stopping l p i at) where
    pub stop_same : (x : ℕ) → e ≤ length l → equal (part l at e) p ≡ true → x ≡ min (e + contents_length (contents_mark_at l i)) (length l)
        → span_by (eqb (contents_mark_at l i) directory_mark) e x ≡ place_at l p
    stop_same x b m q = sym (here_same l p i at e x _ (omega arith) (omega arith) (omega arith) (row_here x b q) m) ∙ s (omega arith)

    pub stop_past : e ≤ length l → smaller (part l at e) p ≡ false → equal (part l at e) p ≡ false → no_entry ≡ place_at l p
    stop_past b m n = sym (here_past l p i at e _ _ (omega arith) (omega arith) (omega arith) (row_here _ b refl) m n) ∙ s (omega arith)

    pub stop_below : (x : ℕ) → smaller (part l at e) p ≡ true → x ≡ e + contents_length (contents_mark_at l i) → Stopping l p (i + 1) x
    stop_below x m q u = sym (here_below l p i at e x _ (omega arith) (omega arith) u (row_here x (omega arith) (omega arith)) m) ∙ s (omega arith)

  module _ (s : Missing l p i at) where
    pub missing_past : e ≤ length l → smaller p (part l at e) ≡ true → place_at l p ≡ no_entry
    missing_past b m = s (omega arith) (here_past l p i at e _ _ (omega arith) (omega arith) (omega arith) (row_here _ b refl) (smaller_not p (part l at e) m) (smaller_unequal p (part l at e) m).1)

    pub missing_other : (x : ℕ) → (leb e (length l) && equal (part l at e) p) ≡ false → x ≡ e + contents_length (contents_mark_at l i) → Missing l p (i + 1) x
    missing_other x m q u f = go (smaller (part l at e) p) refl
      where
        rs : rows_at l i at ≡ row_by l at e x (eqb (contents_mark_at l i) directory_mark) ∷ rows_at l (i + 1) x
        rs = row_here x (omega arith) (omega arith)

        n : equal (part l at e) p ≡ false
        n = sym (match_inside l at e p (omega arith)) ∙ m

        go : (b : Bool) → smaller (part l at e) p ≡ b → place_at l p ≡ no_entry
        go true z = s (omega arith) (here_below l p i at e x _ (omega arith) (omega arith) u rs z ∙ f)
        go false z = s (omega arith) (here_past l p i at e x _ (omega arith) (omega arith) u rs z n)

-- what is smaller with the bytes that follow it is smaller by itself
pub smaller_take : (k : ℕ) (s p : Text) → smaller s p ≡ true → smaller (take k s) p ≡ true
unfolding smaller
smaller_take k [] [] h = absurd (true≢false (sym h))
smaller_take k (x ∷ s) [] h = absurd (true≢false (sym h))
smaller_take zero s (y ∷ p) h = refl
smaller_take (suc k) [] (y ∷ p) h = refl
smaller_take (suc k) (x ∷ s) (y ∷ p) h = go (ltb x y) refl (eqb x y) refl (smaller_take k s p)
  where
    go : (b : Bool) → ltb x y ≡ b → (c : Bool) → eqb x y ≡ c → (smaller s p ≡ true → smaller (take k s) p ≡ true) → ltb x y || (eqb x y && smaller (take k s) p) ≡ true
    go true e c f ih = rw e
    go false e true f ih = rw (e, f) (ih (rw (e, f) at h))
    go false e false f ih = absurd (true≢false (sym (rw (e, f) at h)))

-- what stands at the places is what is found, and lies within the bytes
abbrev pub InBytes : List ℕ → Entry Span → Type 0
InBytes l no_entry = Unit {0}
InBytes l directory_entry = Unit {0}
InBytes l (file_entry s) = (s.start ≤ s.end) × (s.end ≤ length l)

viewed_from : (l : List ℕ) (p : Text) (k i at : ℕ) → k + i ≡ entry_count l → at ≤ length l
    → (viewed l (place_in at (rows_at l i at) p) ≡ found_in (rows_at l i at) p) × InBytes l (place_in at (rows_at l i at) p)
unfolding viewed entry_of
viewed_from l p zero i at n h =
    let a = place_end l p i at (omega arith) in
    rw (a, found_end p (rows_end l i at (omega arith))) (refl, tt)
viewed_from l p (suc k) i at n h = go (smaller (part l at e) p) refl (equal (part l at e) p) refl (viewed_from l p k (i + 1) x (omega arith) (omega arith))
  where
    e : ℕ
    e = min (at + path_length_at l i) (length l)

    x : ℕ
    x = min (e + contents_length (contents_mark_at l i)) (length l)

    d : Bool
    d = eqb (contents_mark_at l i) directory_mark

    rs : rows_at l i at ≡ row_by l at e x d ∷ rows_at l (i + 1) x
    rs = rows_place l i at e x (omega arith) h refl refl

    Claim : Type 0
    Claim = (viewed l (place_in at (rows_at l i at) p) ≡ found_in (rows_at l i at) p) × InBytes l (place_in at (rows_at l i at) p)

    hit : (c : Bool) → d ≡ c → equal (part l at e) p ≡ true → Claim
    hit true c m = rw (here_same l p i at e x d (omega arith) (omega arith) (omega arith) rs m, found_same p rs m, c) (refl, tt)
    hit false c m = rw (here_same l p i at e x d (omega arith) (omega arith) (omega arith) rs m, found_same p rs m, c) (refl, (omega arith, omega arith))

    go : (b : Bool) → smaller (part l at e) p ≡ b → (c : Bool) → equal (part l at e) p ≡ c
        → (viewed l (place_in x (rows_at l (i + 1) x) p) ≡ found_in (rows_at l (i + 1) x) p) × InBytes l (place_in x (rows_at l (i + 1) x) p) → Claim
    go true m c q ih = rw (here_below l p i at e x d (omega arith) (omega arith) (omega arith) rs m, found_below p rs m) ih
    go false m true q ih = hit d refl q
    go false m false q ih = rw (here_past l p i at e x d (omega arith) (omega arith) (omega arith) rs m q, found_past p rs m q) (refl, tt)

pub found_viewed : (l : List ℕ) (p : Text) → (viewed l (place_at l p) ≡ found_at l p) × InBytes l (place_at l p)
unfolding found_at
found_viewed l p =
    let at : ℕ = min (0 + (8 + 8 * entry_count l)) (length l) in
    let a = place_begin l p (entry_count l) at refl refl in
    let b = rows_begin l (entry_count l) at refl refl in
    rw (← a, b) (viewed_from l p (entry_count l) 0 at (omega arith) (omega arith))
