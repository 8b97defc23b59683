-- A rising list of entries, and the marks of the prefixes of one path that are directory entries: what one pass over the listing
-- uses to test order and parents.
use Rattle.std.specs.Prelude.{◌≡◌, ℕ, zero, suc, ◌+◌, ◌-◌, ◌*◌, ◌≤◌, ◌<◌, max, Bool, ◌&&◌, ◌||◌, ◌⊎◌, leb, ltb, drop, take, get_or, set, replicate, if◌then◌else◌}
use Rattle.std.proofs.Math.Path.{refl, sym, ap}
use Rattle.std.proofs.Common.{◌∙◌, true≢false, inl, inr, length-set, length-drop, length-take-le, get_or-take, take-take, take_all, get_or-set_same, get_or-set_other}
use Rattle.std.proofs.Math.Bool.{true, false, not, and-false, or-true}
use Rattle.std.proofs.lemmas.Bool.{false≢true}
use mathlib.Core.List.{List, [], ◌∷◌}
use native.Mathlib.Omega.{arith}
use borrow.Author.Tests.{eqb-true, eq-eqb, ne_eqb, lt-ltb, le-ltb, ltb-true, le-leb, lt-leb, leb-true}
use Rattle.std.proofs.Math.Dec.{eqb}
use Rattle.std.proofs.Math.ListN.{length}
use Rattle.std.proofs.lemmas.List.{length-replicate}
use Rattle.std.proofs.Math.Seq.{take-length}
use Rattle.definition.specs.Text.{Text, text, slash, equal, smaller, count, all}
use Rattle.laws.specs.TextLaws.{and_true, equal_true, equal_refl}
use Rattle.laws.specs.TextSteps.{equal_lengths, smaller_start, smaller_here, take_more}
use Rattle.definition.specs.Path.{depth}
use Rattle.definition.specs.Listing.{number32, no_entry, Row, rows, row_fits, sizes_fit, first_is_root, passes30, passes31, rising, is_manifest, is_path, entry_in, entry_of, is_directory_entry, parent_is_directory, listing_computes}
use Rattle.laws.specs.ListingSteps.{number_at, at_or_under, row, rising_after, rising_after_lem, after_next, after_end, all_next, all_end, all_both, entry_hit, entry_miss}
use Rattle.laws.specs.ListingNameLaws.{is_name, Cut, cut_of}
use Rattle.laws.specs.PathSteps.{LastAt}

-- the order
below_cases : (x y : ℕ) (b : Bool) → ltb x y || (eqb x y && b) ≡ true → (x < y) ⊎ ((x ≡ y) × (b ≡ true))
below_cases x y b h = go (ltb x y) (eqb x y) refl refl h
  where
    go : (t u : Bool) → ltb x y ≡ t → eqb x y ≡ u → t || (u && b) ≡ true → (x < y) ⊎ ((x ≡ y) × (b ≡ true))
    go true u p q h = inl (ltb-true x y p)
    go false true p q h = inr (eqb-true x y q, h)
    go false false p q h = absurd (false≢true h)

first_below : (x y : ℕ) (b : Bool) → x < y → ltb x y || (eqb x y && b) ≡ true
first_below x y b h = rw (lt-ltb x y h)

rest_below : (x y : ℕ) (b : Bool) → x ≡ y → b ≡ true → ltb x y || (eqb x y && b) ≡ true
rest_below x y b e h = rw (eq-eqb x y e, h) (go (ltb x y))
  where
    go : (t : Bool) → t || true ≡ true
    go true = refl
    go false = refl

pub smaller_trans : (a b c : List ℕ) → smaller a b ≡ true → smaller b c ≡ true → smaller a c ≡ true
unfolding smaller
smaller_trans a [] c p q = absurd (none a p)
  where
    none : (a : List ℕ) → smaller a [] ≡ true → ⊥
    none [] e = false≢true e
    none (x ∷ a) e = false≢true e
smaller_trans a (y ∷ b) [] p q = absurd (false≢true q)
smaller_trans [] (y ∷ b) (z ∷ c) p q = refl
smaller_trans (x ∷ a) (y ∷ b) (z ∷ c) p q = go (below_cases x y _ p) (below_cases y z _ q) (smaller_trans a b c)
  where
    go : (x < y) ⊎ ((x ≡ y) × (smaller a b ≡ true)) → (y < z) ⊎ ((y ≡ z) × (smaller b c ≡ true)) → (smaller a b ≡ true → smaller b c ≡ true → smaller a c ≡ true) → ltb x z || (eqb x z && smaller a c) ≡ true
    go (inl h) (inl k) ih = first_below x z _ (omega arith)
    go (inl h) (inr k) ih = first_below x z _ (omega (arith, k.0))
    go (inr h) (inl k) ih = first_below x z _ (omega (arith, h.0))
    go (inr h) (inr k) ih = rest_below x z _ (h.0 ∙ k.0) (ih h.1 k.1)

smaller_self : (a : List ℕ) → smaller a a ≡ true → ⊥
unfolding smaller
smaller_self [] h = false≢true h
smaller_self (x ∷ a) h = go (below_cases x x _ h) (smaller_self a)
  where
    go : (x < x) ⊎ ((x ≡ x) × (smaller a a ≡ true)) → (smaller a a ≡ true → ⊥) → ⊥
    go (inl k) ih = omega arith
    go (inr k) ih = ih k.1

pub smaller_unequal : (a b : List ℕ) → smaller a b ≡ true → (equal a b ≡ false) × (equal b a ≡ false)
smaller_unequal a b h = (go (equal a b) refl, go' (equal b a) refl)
  where
    go : (t : Bool) → equal a b ≡ t → equal a b ≡ false
    go false e = e
    go true e = absurd (smaller_self b (rw (equal_true a b e) at h))

    go' : (t : Bool) → equal b a ≡ t → equal b a ≡ false
    go' false e = e
    go' true e = absurd (smaller_self a (rw (equal_true b a e) at h))

smaller_prefix : (q : List ℕ) (k : ℕ) → k < length q → smaller (take k q) q ≡ true
unfolding smaller
smaller_prefix [] k h = let z : ⊥ = omega arith in absurd z
smaller_prefix (x ∷ q) zero h = refl
smaller_prefix (x ∷ q) (suc k) h = rest_below x x _ refl (smaller_prefix q k (omega arith))

abbrev head_of : List ℕ → ℕ
head_of [] = 0
head_of (x ∷ s) = x

abbrev tail_of : List ℕ → List ℕ
tail_of [] = []
tail_of (x ∷ s) = s

-- what two texts share does not decide their order
pub smaller_shared : (j : ℕ) (a b : List ℕ) → take j a ≡ take j b → j ≤ length a → j ≤ length b → smaller (drop j a) (drop j b) ≡ smaller a b
unfolding smaller
smaller_shared zero a b e h k = refl
smaller_shared (suc j) [] b e h k = let z : ⊥ = omega arith in absurd z
smaller_shared (suc j) (x ∷ a) [] e h k = let z : ⊥ = omega arith in absurd z
smaller_shared (suc j) (x ∷ a) (y ∷ b) e h k =
    let p : x ≡ y = ap head_of e in
    let q : y ≤ x = omega arith in
    rw (le-ltb x y q, eq-eqb x y p) (smaller_shared j a b (ap tail_of e) (omega arith) (omega arith))

smaller_from : (j : ℕ) (a b : List ℕ) → take j a ≡ take j b → j ≤ length a → j ≤ length b → smaller (drop j a) (drop j b) ≡ true → smaller a b ≡ true
smaller_from j a b e h k s = sym (smaller_shared j a b e h k) ∙ s

-- four bytes at once
pub record Shared (p q : List ℕ) (i : ℕ) : Type 0 where
  pub left : i ≤ length p
  pub right : i ≤ length q
  pub same : take i p ≡ take i q

pub shared_start : (p q : List ℕ) → Shared p q 0
shared_start p q = record { left = omega arith; right = omega arith; same = refl }

module _ (p q : List ℕ) (i : ℕ) (h : i + 4 ≤ length p) (k : i + 4 ≤ length q) (b : (n : ℕ) → get_or p n 0 < 256) (c : (n : ℕ) → get_or q n 0 < 256) (e : number32 (drop i p) ≡ number32 (drop i q)) where
  four : (n : ℕ) → n < 4 → get_or p (i + n) 0 ≡ get_or q (i + n) 0
  four n m = go n m
    where
      v : get_or p i 0 + 256 * (get_or p (i + 1) 0 + 256 * (get_or p (i + 2) 0 + 256 * get_or p (i + 3) 0)) ≡ get_or q i 0 + 256 * (get_or q (i + 1) 0 + 256 * (get_or q (i + 2) 0 + 256 * get_or q (i + 3) 0))
      v = sym (number_at p i) ∙ e ∙ number_at q i

      go : (n : ℕ) → n < 4 → get_or p (i + n) 0 ≡ get_or q (i + n) 0
      go zero m = let z : i + 0 ≡ i = omega arith in rw z (omega (arith, v, b i, c i, b (i + 1), c (i + 1), b (i + 2), c (i + 2), b (i + 3), c (i + 3)))
      go (suc zero) m = omega (arith, v, b i, c i, b (i + 1), c (i + 1), b (i + 2), c (i + 2), b (i + 3), c (i + 3))
      go (suc (suc zero)) m = omega (arith, v, b i, c i, b (i + 1), c (i + 1), b (i + 2), c (i + 2), b (i + 3), c (i + 3))
      go (suc (suc (suc zero))) m = omega (arith, v, b i, c i, b (i + 1), c (i + 1), b (i + 2), c (i + 2), b (i + 3), c (i + 3))
      go (suc (suc (suc (suc n)))) m = let z : ⊥ = omega arith in absurd z

  pub shared_next : Shared p q i → Shared p q (i + 4)
  shared_next s = record { left = h; right = k; same = upto 4 (omega arith) }
    where
      upto : (n : ℕ) → n ≤ 4 → take (i + n) p ≡ take (i + n) q
      upto zero m = let z : i + 0 ≡ i = omega arith in rw z s.same
      upto (suc n) m =
          let z : i + suc n ≡ i + n + 1 = omega arith in
          rw z (take_more p q (i + n) (omega arith) (omega arith) (upto n (omega arith)) (four n (omega arith)))

-- nor does it decide whether they are equal
equal_from : (j : ℕ) (a b : List ℕ) → take j a ≡ take j b → j ≤ length a → j ≤ length b → equal (drop j a) (drop j b) ≡ equal a b
unfolding equal
equal_from zero a b e h k = refl
equal_from (suc j) [] b e h k = let z : ⊥ = omega arith in absurd z
equal_from (suc j) (x ∷ a) [] e h k = let z : ⊥ = omega arith in absurd z
equal_from (suc j) (x ∷ a) (y ∷ b) e h k = rw (eq-eqb x y (ap head_of e)) (equal_from j a b (ap tail_of e) (omega arith) (omega arith))

pub equal_shared : (a b : List ℕ) (k : ℕ) → Shared a b k → equal (take (length a - k) (drop k a)) (take (length b - k) (drop k b)) ≡ equal a b
equal_shared a b k s = rw (rest a, rest b) (equal_from k a b s.same s.left s.right)
  where
    rest : (l : List ℕ) → take (length l - k) (drop k l) ≡ drop k l
    rest l = take_all (length l - k) (drop k l) (omega (arith, length-drop k l))

-- q is larger than p, and they part at j
pub record Rise (p q : List ℕ) (j : ℕ) : Type 0 where
  pub inside : j ≤ length p
  pub below : j < length q
  pub same : take j p ≡ take j q
  pub up : (k : ℕ) → j < k → k ≤ length q → smaller p (take k q) ≡ true

module _ (p q : List ℕ) (j : ℕ) (e : take j p ≡ take j q) (h : j ≤ length p) (b : j < length q) where
  cut_same : (k : ℕ) → j < k → take j p ≡ take j (take k q)
  cut_same k i = e ∙ sym (take-take j k q (omega arith))

  pub rise_short : length p ≤ j → Rise p q j
  rise_short n = record {
    inside = h;
    below = b;
    same = e;
    up = λ k i m. let x : length (take k q) ≡ k = length-take-le k q m in smaller_from j p (take k q) (cut_same k i) h (omega arith) (smaller_start p (take k q) j n (omega arith));
  }

  pub rise_here : j < length p → get_or p j 0 < get_or q j 0 → Rise p q j
  rise_here n l = record {
    inside = h;
    below = b;
    same = e;
    up = λ k i m. let x : length (take k q) ≡ k = length-take-le k q m in smaller_from j p (take k q) (cut_same k i) h (omega arith) (smaller_here p (take k q) j n (omega arith) (omega (arith, get_or-take k q j 0 i)));
  }

-- what is smaller than the entry before the rest is not among the rest
pub after_no_entry : (q t : Text) (rest : List Row) → rising_after q rest ≡ true → smaller t q ≡ true → entry_in rest t ≡ no_entry
unfolding rising_after entry_in
after_no_entry q t [] r s = refl
after_no_entry q t (x ∷ rest) r s = go (smaller q x.path) refl (after_no_entry x.path t rest)
  where
    go : (b : Bool) → smaller q x.path ≡ b → (rising_after x.path rest ≡ true → smaller t x.path ≡ true → entry_in rest t ≡ no_entry) → (if equal x.path t then entry_of x else entry_in rest t) ≡ no_entry
    go false e ih = absurd (false≢true (rw e at r))
    go true e ih =
        let u : smaller t x.path ≡ true = smaller_trans t q x.path s e in
        rw (smaller_unequal t x.path u).1 (ih (rw e at r) u)

-- 30's rule of depth, and 30's other rules of one entry
unfoldable pub shallow : Row → Bool
shallow r = leb (count slash r.path) 32

unfoldable pub sized : Row → Bool
sized r = leb (length r.path) 1024 && (is_manifest r.path || equal r.contents [])

module _ (p : Text) (d : Bool) (c : List ℕ) where
  pub sized_short : sized (row p d c) ≡ true → length p ≤ 1024
  unfolding sized
  sized_short h = leb-true (length p) 1024 (and_true _ _ h).0

  pub sized_long : 1024 < length p → sized (row p d c) ≡ false
  unfolding sized
  sized_long h = rw (lt-leb (length p) 1024 h)

  module _ (h : length p ≤ 1024) where
    pub sized_empty : length c ≡ 0 → sized (row p d c) ≡ true
    unfolding sized
    sized_empty e = rw (le-leb (length p) 1024 h) (go c e)
      where
        go : (c : List ℕ) → length c ≡ 0 → is_manifest p || equal c [] ≡ true
        go [] e = unfold equal in or-true (is_manifest p)
        go (x ∷ c) e = let z : ⊥ = omega arith in absurd z

    pub sized_full : (length c ≡ 0 → ⊥) → sized (row p d c) ≡ is_manifest p
    unfolding sized
    sized_full e = rw (le-leb (length p) 1024 h, equal_lengths c [] e) (go (is_manifest p))
      where
        go : (t : Bool) → t || false ≡ t
        go true = refl
        go false = refl

abbrev pub path_row : Row → Bool
path_row r = is_path r.path

-- paths, order, parents and depth
abbrev pub in_order : List Row → Bool
in_order rs = all path_row rs && rising rs && all (parent_is_directory rs) rs && all shallow rs

abbrev pub is_directory_in : List Row → Text → Bool
is_directory_in rs t = is_directory_entry (entry_in rs t)

-- a mark is 0, or one more than the depth of a prefix that is a directory entry
pub record Marked (rs : List Row) (p : Text) (m : List ℕ) : Type 0 where
  pub directory : rising rs ≡ true → (i : ℕ) → 0 < i → i ≤ length p → eqb (get_or m i 0) 0 ≡ not (is_directory_in rs (take i p))
  pub path : (i : ℕ) → 0 < i → i ≤ length p → (get_or m i 0 ≡ 0 → ⊥) → (is_path (take i p) ≡ true) × (get_or m i 0 ≡ suc (depth (take i p)))
  pub beyond : (i : ℕ) → length p < i → get_or m i 0 ≡ 0

-- the marks of the next path, of k bytes, from those of a path of n: the first j stay, and v is its own
pub record Remarked (j n k v : ℕ) (m m' : List ℕ) : Type 0 where
  pub kept : (i : ℕ) → i ≤ j → get_or m' i 0 ≡ get_or m i 0
  pub cleared : (i : ℕ) → j < i → i ≤ n → (i ≡ k → ⊥) → get_or m' i 0 ≡ 0
  pub outside : (i : ℕ) → n < i → (i ≡ k → ⊥) → get_or m' i 0 ≡ get_or m i 0
  pub here : get_or m' k 0 ≡ v
  pub size : length m' ≡ length m

-- the mark of an entry itself
abbrev pub mark_of : Bool → ℕ → ℕ
mark_of true v = v + 1
mark_of false v = 0

-- one pass: the entries rs, of which p is the last seen, the rest, and the marks of p
pub record Going (rs : List Row) (p : Text) (rest : List Row) (m : List ℕ) : Type 0 where
  pub order : rising_after p rest ≡ rising rs
  pub skip : (t : Text) → smaller p t ≡ true → entry_in rs t ≡ entry_in rest t
  pub above : smaller p (text "/") ≡ false
  pub paths : all path_row rest ≡ all path_row rs
  pub depths : all shallow rest ≡ all shallow rs
  pub parents : rising rs ≡ true → all (parent_is_directory rs) rest ≡ all (parent_is_directory rs) rs
  pub marks : Marked rs p m

not_in_order : (a b c d : Bool) → (b ≡ true → a && c && d ≡ false) → a && b && c && d ≡ false
not_in_order false b c d f = refl
not_in_order true false c d f = refl
not_in_order true true c d f = f refl

module _ (rs : List Row) where
  order_wrong : rising rs ≡ false → in_order rs ≡ false
  order_wrong e = not_in_order (all path_row rs) (rising rs) (all (parent_is_directory rs) rs) (all shallow rs) (λ r. absurd (false≢true (sym e ∙ r)))

  path_wrong : all path_row rs ≡ false → in_order rs ≡ false
  path_wrong e = rw e

  parent_wrong : (rising rs ≡ true → all (parent_is_directory rs) rs ≡ false) → in_order rs ≡ false
  parent_wrong f = not_in_order (all path_row rs) (rising rs) (all (parent_is_directory rs) rs) (all shallow rs) (λ r. rw (f r) (no (all path_row rs)))
    where
      no : (a : Bool) → a && false && all shallow rs ≡ false
      no true = refl
      no false = refl

  depth_wrong : all shallow rs ≡ false → in_order rs ≡ false
  depth_wrong e = rw e (and-false (all path_row rs && rising rs && all (parent_is_directory rs) rs))

pub going_end : (rs rest : List Row) (p : Text) (m : List ℕ) → Going rs p rest m → rest ≡ [] → in_order rs ≡ true
going_end rs rest p m g e =
    let r : rising rs ≡ true = sym g.order ∙ after_end p e in
    let a : all (parent_is_directory rs) rs ≡ true = sym (g.parents r) ∙ all_end _ e in
    let b : all path_row rs ≡ true = sym g.paths ∙ all_end _ e in
    let c : all shallow rs ≡ true = sym g.depths ∙ all_end _ e in
    rw (r, a, b, c)

module _ (rs : List Row) (p : Text) (m : List ℕ) (q : Text) (d : Bool) (s : List ℕ) (rest tail : List Row) (g : Going rs p rest m) (c : rest ≡ row q d s ∷ tail) where
  pub going_down : smaller p q ≡ false → in_order rs ≡ false
  going_down h = order_wrong rs (sym g.order ∙ after_next p c h)

  pub going_no_path : is_path q ≡ false → in_order rs ≡ false
  going_no_path h = path_wrong rs (sym g.paths ∙ all_next path_row c h)

  going_deep : shallow (row q d s) ≡ false → in_order rs ≡ false
  going_deep h = depth_wrong rs (sym g.depths ∙ all_next shallow c h)

  going_orphan : (rising rs ≡ true → parent_is_directory rs (row q d s) ≡ false) → in_order rs ≡ false
  going_orphan f = parent_wrong rs (λ r. sym (g.parents r) ∙ all_next _ c (f r))

  module _ (j : ℕ) (h : Rise p q j) where
    whole : smaller p q ≡ true
    whole = rw (take-length q) at (h.up (length q) h.below (omega arith))

    tail_rises : rising rs ≡ true → rising_after q tail ≡ true
    tail_rises r = sym (after_next p c whole) ∙ g.order ∙ r

    -- a proper prefix of q beyond j is no entry
    no_entry_lem : rising rs ≡ true → (i : ℕ) → j < i → i < length q → entry_in rs (take i q) ≡ no_entry
    no_entry_lem r i a b =
        let x : smaller (take i q) q ≡ true = smaller_prefix q i b in
        g.skip (take i q) (h.up i a (omega arith)) ∙ entry_miss (take i q) c (smaller_unequal _ _ x).1 ∙ after_no_entry q (take i q) tail (tail_rises r) x

    here_entry : entry_in rs q ≡ entry_of (row q d s)
    here_entry = g.skip q whole ∙ entry_hit q c (equal_refl q)

    prefix_same : (i : ℕ) → i ≤ j → take i p ≡ take i q
    prefix_same i a = sym (take-take i j p a) ∙ ap (take i) h.same ∙ take-take i j q a

    -- "/" is not larger than what was seen
    going_root : length q ≡ 1 → get_or q 0 0 ≡ slash → ⊥
    going_root l e = true≢false (sym whole ∙ ap (smaller p) (one q l e) ∙ g.above)
      where
        one : (q : Text) → length q ≡ 1 → get_or q 0 0 ≡ slash → q ≡ text "/"
        one [] l e = let z : ⊥ = omega arith in absurd z
        one (x ∷ []) l e = ap (λ x. x ∷ []) e
        one (x ∷ y ∷ q) l e = let z : ⊥ = omega arith in absurd z

    -- the parent is the first k bytes of q
    module _ (at k : ℕ) (t : Cut q at k) where
      parent_is : parent_is_directory rs (row q d s) ≡ is_directory_in rs (take k q)
      unfolding parent_is_directory
      parent_is = rw (equal_lengths q (text "/") (λ z. omega (arith, t.positive, t.proper)), t.parent)

      going_far : j < k → in_order rs ≡ false
      going_far x = going_orphan (λ r. parent_is ∙ ap is_directory_entry (no_entry_lem r k x t.proper) ∙ (unfold is_directory_entry in refl))

      module _ (x : k ≤ j) where
        inside : k ≤ length p
        inside = omega (arith, h.inside)

        near : rising rs ≡ true → eqb (get_or m k 0) 0 ≡ not (parent_is_directory rs (row q d s))
        near r = g.marks.directory r k t.positive inside ∙ ap (λ u. not (is_directory_in rs u)) (prefix_same k x) ∙ ap not (sym parent_is)

        pub going_unmarked : get_or m k 0 ≡ 0 → in_order rs ≡ false
        going_unmarked z = going_orphan (λ r. sym (not_not _) ∙ ap not (sym (near r) ∙ eq-eqb _ _ z))
          where
            not_not : (b : Bool) → not (not b) ≡ b
            not_not true = refl
            not_not false = refl

        module _ (z : get_or m k 0 ≡ 0 → ⊥) where
          above_path : (is_path (take k q) ≡ true) × (get_or m k 0 ≡ suc (depth (take k q)))
          above_path = rw (prefix_same k x) at (g.marks.path k t.positive inside z)

          slashes_are : count slash q ≡ get_or m k 0
          slashes_are = t.slashes ∙ sym above_path.1

          pub going_too_deep : 32 < get_or m k 0 → in_order rs ≡ false
          unfolding shallow
          going_too_deep y = going_deep (rw slashes_are (lt-leb _ _ y))

          pub name_is_lem : is_path q ≡ is_name (take (length q - (at + 1)) (drop (at + 1) q))
          name_is_lem = t.path above_path.0

          module _ (y : get_or m k 0 ≤ 32) (e : is_path q ≡ true) (m' : List ℕ) (w : Remarked j (length p) (length q) (mark_of d (get_or m k 0)) m m') where
            unmarked : (i : ℕ) → j < i → (i ≡ length q → ⊥) → get_or m' i 0 ≡ 0
            unmarked i a b = go (at_or_under i (length p))
              where
                go : (i ≤ length p) ⊎ (length p < i) → get_or m' i 0 ≡ 0
                go (inl x) = w.cleared i a x b
                go (inr x) = w.outside i x b ∙ g.marks.beyond i x

            directory_mark_lem : rising rs ≡ true → (i : ℕ) → 0 < i → i ≤ length q → eqb (get_or m' i 0) 0 ≡ not (is_directory_in rs (take i q))
            directory_mark_lem r i a b = go (at_or_under i j) (at_or_under (length q) i)
              where
                own : (d : Bool) (v : ℕ) → eqb (mark_of d v) 0 ≡ not (is_directory_entry (entry_of (row q d s)))
                own true v = ne_eqb (v + 1) 0 (λ z. omega arith) ∙ (unfold is_directory_entry entry_of in refl)
                own false v = unfold is_directory_entry entry_of in refl

                go : (i ≤ j) ⊎ (j < i) → (length q ≤ i) ⊎ (i < length q) → eqb (get_or m' i 0) 0 ≡ not (is_directory_in rs (take i q))
                go (inl x) y = ap (λ (v : ℕ). eqb v 0) (w.kept i x) ∙ g.marks.directory r i a (omega (arith, h.inside)) ∙ ap (λ t. not (is_directory_in rs t)) (prefix_same i x)
                go (inr x) (inr y) = ap (λ (v : ℕ). eqb v 0) (unmarked i x (λ e. omega arith)) ∙ sym (ap (λ t. not (is_directory_entry t)) (no_entry_lem r i x y) ∙ (unfold is_directory_entry in refl))
                go (inr x) (inl y) =
                    let e : i ≡ length q = omega arith in
                    ap (λ (n : ℕ). eqb (get_or m' n 0) 0) e ∙ ap (λ (v : ℕ). eqb v 0) w.here ∙ own d _
                    ∙ sym (ap (λ t. not (is_directory_in rs t)) (take_all i q y) ∙ ap (λ t. not (is_directory_entry t)) here_entry)

            path_mark : (i : ℕ) → 0 < i → i ≤ length q → (get_or m' i 0 ≡ 0 → ⊥) → (is_path (take i q) ≡ true) × (get_or m' i 0 ≡ suc (depth (take i q)))
            path_mark i a b n = go (at_or_under i j) (at_or_under (length q) i)
              where
                deep : depth q ≡ count slash q
                deep = unfold depth in rw (equal_lengths q (text "/") (λ z. omega (arith, t.positive, t.proper)))

                own : (d : Bool) (v u : ℕ) → v ≡ mark_of d u → (v ≡ 0 → ⊥) → v ≡ suc u
                own true v u e n = omega arith
                own false v u e n = absurd (n e)

                go : (i ≤ j) ⊎ (j < i) → (length q ≤ i) ⊎ (i < length q) → (is_path (take i q) ≡ true) × (get_or m' i 0 ≡ suc (depth (take i q)))
                go (inl x) y = rw (w.kept i x, ← prefix_same i x) (g.marks.path i a (omega (arith, h.inside)) (λ z. n (w.kept i x ∙ z)))
                go (inr x) (inr y) = absurd (n (unmarked i x (λ e. omega arith)))
                go (inr x) (inl y) =
                    let f : i ≡ length q = omega arith in
                    let v : get_or m' i 0 ≡ mark_of d (get_or m k 0) = ap (λ (n : ℕ). get_or m' n 0) f ∙ w.here in
                    (ap is_path (take_all i q y) ∙ e, own d _ _ v n ∙ ap suc (sym slashes_are ∙ sym deep ∙ ap depth (sym (take_all i q y))))

            parent_found : rising rs ≡ true → parent_is_directory rs (row q d s) ≡ true
            parent_found r = go _ (sym (near r) ∙ ne_eqb _ _ z)
              where
                go : (b : Bool) → not b ≡ false → b ≡ true
                go true e = refl
                go false e = absurd (true≢false e)

            pub going_next : Going rs q tail m'
            unfolding shallow
            going_next = record {
              order = sym (after_next p c whole) ∙ g.order;
              skip = λ t u. g.skip t (smaller_trans p q t whole u) ∙ entry_miss t c (smaller_unequal q t u).0;
              above = not_smaller (smaller q (text "/")) refl;
              paths = sym (all_next path_row c e) ∙ g.paths;
              depths = sym (all_next shallow c not_deep) ∙ g.depths;
              parents = λ r. sym (all_next _ c (parent_found r)) ∙ g.parents r;
              marks = record { directory = directory_mark_lem; path = path_mark; beyond = λ i a. unmarked i (omega (arith, h.below)) (λ e. omega arith) };
            }
              where
                not_deep : shallow (row q d s) ≡ true
                not_deep = le-leb (count slash q) 32 (omega (arith, slashes_are))

                not_smaller : (b : Bool) → smaller q (text "/") ≡ b → smaller q (text "/") ≡ false
                not_smaller false e = e
                not_smaller true e = absurd (true≢false (sym (smaller_trans p q (text "/") whole e) ∙ g.above))

    -- the parent lies beyond what p and q share
    pub going_apart : (at k : ℕ) → LastAt slash q at → (at ≡ 1 → ⊥) → k ≡ max at 1 → j < k → in_order rs ≡ false
    going_apart at k f n e x = go (at_or_under (length q) 1)
      where
        go : (length q ≤ 1) ⊎ (1 < length q) → in_order rs ≡ false
        go (inl y) = let z : at ≡ 0 = omega (arith, f.inside) in absurd (going_root (omega (arith, f.inside)) (rw z at f.here))
        go (inr y) = going_far at k (cut_of q at k f n e y) x

-- the first entry is the directory "/"
pub going_start : (rs : List Row) (q : Text) (s : List ℕ) (tail : List Row) (m : List ℕ) → rs ≡ row q true s ∷ tail → equal q (text "/") ≡ true
    → get_or m 1 0 ≡ 1 → ((i : ℕ) → 1 < i → get_or m i 0 ≡ 0) → Going rs q tail m
unfolding parent_is_directory
going_start rs q s tail m c e one more = record {
  order = sym (ap rising c ∙ rising_after_lem _ tail);
  skip = λ t u. entry_miss t c (smaller_unequal q t u).0;
  above = rw root (unfold smaller in refl);
  paths = sym (all_next path_row c root_path);
  depths = sym (all_next shallow c {b = true} root_shallow);
  parents = λ r. sym (all_next _ c root_parent);
  marks = record { directory = λ r. mark; path = λ i a b n. on i a b; beyond = λ i a. more i (omega (arith, len)) };
}
  where
    root : q ≡ text "/"
    root = equal_true q (text "/") e

    len : length q ≡ 1
    len = ap length root

    root_path : is_path q ≡ true
    root_path = rw root (unfold listing_computes in refl)

    root_parent : parent_is_directory rs (row q true s) ≡ true
    root_parent = rw e

    root_shallow : shallow (row q true s) ≡ true
    root_shallow = rw root (unfold listing_computes shallow in refl)

    at_one : (i : ℕ) → 0 < i → i ≤ length q → get_or m i 0 ≡ 1
    at_one i a b = let x : i ≡ 1 = omega (arith, len) in ap (λ (n : ℕ). get_or m n 0) x ∙ one

    mark : (i : ℕ) → 0 < i → i ≤ length q → eqb (get_or m i 0) 0 ≡ not (is_directory_in rs (take i q))
    mark i a b = ap (λ (n : ℕ). eqb n 0) (at_one i a b) ∙ sym (ap (λ t. not (is_directory_in rs t)) (take_all i q (omega (arith, len))) ∙ ap (λ t. not (is_directory_entry t)) (entry_hit q c (equal_refl q)) ∙ (unfold is_directory_entry entry_of in refl))

    on : (i : ℕ) → 0 < i → i ≤ length q → (is_path (take i q) ≡ true) × (get_or m i 0 ≡ suc (depth (take i q)))
    on i a b = rw (take_all i q (omega (arith, len)), root) (unfold listing_computes in refl, at_one i a b ∙ (unfold listing_computes in refl))

-- the marks while those behind j are cleared, as far as i
pub record Cleared (j i : ℕ) (m m' : List ℕ) : Type 0 where
  pub after : j < i
  pub size : length m' ≡ length m
  pub low : (x : ℕ) → x ≤ j → get_or m' x 0 ≡ get_or m x 0
  pub gone : (x : ℕ) → j < x → x < i → get_or m' x 0 ≡ 0
  pub high : (x : ℕ) → i ≤ x → get_or m' x 0 ≡ get_or m x 0

pub cleared_start : (j : ℕ) (m : List ℕ) → Cleared j (j + 1) m m
cleared_start j m = record {
  after = omega arith;
  size = refl;
  low = λ x a. refl;
  gone = λ x a b. let z : ⊥ = omega arith in absurd z;
  high = λ x a. refl;
}

pub cleared_next : (j i : ℕ) (m m' : List ℕ) → Cleared j i m m' → i < length m' → Cleared j (i + 1) m (set m' i 0)
cleared_next j i m m' g h = record {
  after = omega (arith, g.after);
  size = length-set m' i 0 ∙ g.size;
  low = λ x a. get_or-set_other m' i x 0 0 (λ e. omega (arith, g.after)) ∙ g.low x a;
  gone = λ x a b. go x a b (at_or_under i x);
  high = λ x a. get_or-set_other m' i x 0 0 (λ e. omega arith) ∙ g.high x (omega arith);
}
  where
    go : (x : ℕ) → j < x → x < i + 1 → (i ≤ x) ⊎ (x < i) → get_or (set m' i 0) x 0 ≡ 0
    go x a b (inl u) = let e : x ≡ i = omega arith in ap (λ (n : ℕ). get_or (set m' i 0) n 0) e ∙ get_or-set_same m' i 0 0 h
    go x a b (inr u) = get_or-set_other m' i x 0 0 (λ e. omega arith) ∙ g.gone x a u

pub cleared_marked : (j i n k v : ℕ) (m m' : List ℕ) → Cleared j i m m' → n < i → i ≤ n + 1 → j < k → k < length m' → Remarked j n k v m (set m' k v)
cleared_marked j i n k v m m' g a b c h = record {
  kept = λ x u. get_or-set_other m' k x v 0 (λ z. omega arith) ∙ g.low x u;
  cleared = λ x u w z. get_or-set_other m' k x v 0 z ∙ g.gone x u (omega arith);
  outside = λ x u z. get_or-set_other m' k x v 0 z ∙ g.high x (omega arith);
  here = get_or-set_same m' k v 0 h;
  size = length-set m' k v ∙ g.size;
}

-- the marks at the start
abbrev no_marks : ℕ → List ℕ
no_marks n = replicate n 0

zeros : (n i : ℕ) → get_or (no_marks n) i 0 ≡ 0
zeros zero i = refl
zeros (suc n) zero = refl
zeros (suc n) (suc i) = zeros n i

pub marks_one : (n v : ℕ) → 1 < n → get_or (set (no_marks n) 1 v) 1 0 ≡ v
marks_one n v h = get_or-set_same (no_marks n) 1 v 0 (omega (arith, length-replicate {A = ℕ} n 0))

pub marks_more : (n v i : ℕ) → 1 < i → get_or (set (no_marks n) 1 v) i 0 ≡ 0
marks_more n v i h = get_or-set_other (no_marks n) 1 i v 0 (λ e. omega arith) ∙ zeros n i

pub marks_size : (n v : ℕ) → length (set (no_marks n) 1 v) ≡ n
marks_size n v = length-set (no_marks n) 1 v ∙ length-replicate {A = ℕ} n 0

-- the three checks by what the passes find
fits_both : (rs : List Row) → all row_fits rs ≡ all sized rs && all shallow rs
unfolding row_fits sized shallow
fits_both rs = all_both row_fits sized shallow (λ r. swap (leb (length r.path) 1024) (leb (count slash r.path) 32) (is_manifest r.path || equal r.contents [])) rs
  where
    swap : (a b c : Bool) → a && b && c ≡ (a && c) && b
    swap false b c = refl
    swap true false true = refl
    swap true false false = refl
    swap true true true = refl
    swap true true false = refl

pub passes_30 : (l : List ℕ) {a b c : Bool} → sizes_fit l ≡ a → all sized (rows l) ≡ b → all shallow (rows l) ≡ c → passes30 l ≡ a && (b && c)
unfolding passes30
passes_30 l h i j = rw (h, fits_both (rows l), i, j)

pub passes_31 : (l : List ℕ) → (first_is_root (rows l) && in_order (rows l)) ≡ true → (passes31 l ≡ true) × (all shallow (rows l) ≡ true)
unfolding passes31
passes_31 l h = go (first_is_root (rows l)) (all path_row (rows l)) (rising (rows l)) (all (parent_is_directory (rows l)) (rows l)) (all shallow (rows l)) h
  where
    go : (a b c d e : Bool) → (a && (b && c && d && e)) ≡ true → (a && b && c && d ≡ true) × (e ≡ true)
    go false b c d e h = absurd (false≢true h)
    go true false c d e h = absurd (false≢true h)
    go true true false d e h = absurd (false≢true h)
    go true true true false e h = absurd (false≢true h)
    go true true true true e h = (refl, h)

pub fails_31 : (l : List ℕ) → (first_is_root (rows l) && in_order (rows l)) ≡ false → all shallow (rows l) ≡ true → passes31 l ≡ false
unfolding passes31
fails_31 l h k = go (first_is_root (rows l)) (all path_row (rows l)) (rising (rows l)) (all (parent_is_directory (rows l)) (rows l)) (rw k at h)
  where
    go : (a b c d : Bool) → (a && (b && c && d && true)) ≡ false → a && b && c && d ≡ false
    go false b c d h = refl
    go true false c d h = refl
    go true true false d h = refl
    go true true true false h = refl
    go true true true true h = absurd (false≢true (sym h))
