-- One entry of the search over unclamped lengths, and what its places say.
use mathlib.Core.Path.{◌≡◌, refl, sym, ◌∙◌, ap}
use mathlib.Core.Bool.{Bool, true, false, ◌&&◌}
use mathlib.Core.List.{List}
use mathlib.Core.Logic.{◌⊎◌, inl, inr}
use borrow.Author.Tests.{eq-eqb, ne_eqb, leb-true}
use Prim.Native.Nat.{ℕ, zero, suc, ◌+◌, ◌-◌, ◌*◌, ◌≤◌, ◌<◌, min}
use native.Mathlib.Omega.{arith}
use native.Mathlib.Numerals.{add-one}
use lib.ListN.{length, drop, get_or}
use lib.Seq.{get_or-take, get_or-drop}
use lib.Dec.{eqb, leb}
use Rattle.definition.specs.Text.{Text, equal, smaller}
use Rattle.definition.specs.Listing.{no_entry, entry_count, number32, contents_length, place_at, directory_mark}
use Rattle.laws.specs.TextLaws.{equal_true, and_true}
use Rattle.laws.specs.ListingSteps.{part, path_length_at, contents_mark_at, number_at, match_inside, at_or_under}
use Rattle.laws.specs.SearchLaws.{viewed, InBytes, found_viewed, Stopping, Missing, stop_start, stop_same, stop_past}
use Rattle.laws.specs.SearchLaws.{stop_below, missing_start, missing_end, missing_past, missing_other, smaller_take}
use Rattle.listing.specs.Places.{Reached, start_of}
use Rattle.listing.specs.Meaning.{seen, Inside, place_of, Searched, has_path, NoneBefore}
use Rattle.listing.specs.declared.Found.{Found}
use Rattle.listing.specs.declared.Found.TheVariants.{Absent, Directory, File}

-- the text from `at` to e, by its last eight bytes
module _ (l : List ℕ) (at e : ℕ) (p : Text) (h : e ≤ length l) (u : at + 8 ≤ e) where
  byte_in : (i : ℕ) → i < e - at → get_or (part l at e) i 0 ≡ get_or l (at + i) 0
  byte_in i v = get_or-take (e - at) (drop at l) i 0 v ∙ get_or-drop at l i 0

  number_in : (k m : ℕ) → m ≡ at + k → k + 4 ≤ e - at → number32 (drop k (part l at e)) ≡ number32 (drop m l)
  number_in k m q v =
      let a : get_or (part l at e) k 0 ≡ get_or l m 0 = byte_in k (omega arith)
      ∙ ap (λ (n : ℕ). get_or l n 0) (sym q) in
      let b : get_or (part l at e) (k + 1) 0 ≡ get_or l (m + 1) 0 = byte_in (k + 1) (omega arith)
      ∙ ap (λ (n : ℕ). get_or l n 0) (omega arith) in
      let c : get_or (part l at e) (k + 2) 0 ≡ get_or l (m + 2) 0 = byte_in (k + 2) (omega arith)
      ∙ ap (λ (n : ℕ). get_or l n 0) (omega arith) in
      let d : get_or (part l at e) (k + 3) 0 ≡ get_or l (m + 3) 0 = byte_in (k + 3) (omega arith)
      ∙ ap (λ (n : ℕ). get_or l n 0) (omega arith) in
      omega (arith, number_at (part l at e) k, number_at l m, a, b, c, d)

  pub match_tail : (number32 (drop (e - 8) l) + 4294967296 * number32 (drop (e - 8 + 4) l) ≡ number32
      (drop (e - at - 8) p) + 4294967296 * number32 (drop (e - at - 8 + 4) p) → ⊥)
      → (leb e (length l) && equal (part l at e) p) ≡ false
  match_tail f = match_inside l at e p h ∙ go (equal (part l at e) p) refl
    where
      same : equal (part l at e) p ≡ true → (k m : ℕ) → m ≡ at + k → k + 4 ≤ e - at
          → number32 (drop m l) ≡ number32 (drop k p)
      same q k m w v = sym (number_in k m w v) ∙ ap (λ t. number32 (drop k t)) (equal_true _ _ q)

      go : (b : Bool) → equal (part l at e) p ≡ b → equal (part l at e) p ≡ false
      go false q = q
      go true q = absurd (f (omega (
        arith,
        same q (e - at - 8) (e - 8) (omega arith) (omega arith),
        same q (e - at - 8 + 4) (e - 8 + 4) (omega arith) (omega arith),
      )))

-- where entries begin, and that each ends before the next ones
start_first : (l : List ℕ) (n : ℕ) → n ≡ entry_count l → 8 + 8 * n ≡ start_of l 0
unfolding start_of
start_first l n e = ap (λ (k : ℕ). 8 + 8 * k) e

pub reached_first : (l : List ℕ) (n : ℕ) → n ≡ entry_count l → n ≤ 1024 → 8 + 8 * n ≤ length l
    → Reached l n 0 (8 + 8 * n)
reached_first l n e f t = record {
  count = e;
  few = f;
  tables = t;
  index = omega arith;
  small = omega arith;
  place =
      start_first l n e;
}

start_next : (l : List ℕ) (i : ℕ)
    → start_of l (i + 1) ≡ start_of l i + path_length_at l i + contents_length (contents_mark_at l i)
unfolding start_of
start_next l i = rw add-one

pub ends_before : (l : List ℕ) (i j : ℕ) → i < j → start_of l i + path_length_at l i ≤ start_of l j
unfolding start_of
ends_before l i zero h = let z : ⊥ = omega arith in absurd z
ends_before l i (suc j) h = go (at_or_under j i) (ends_before l i j)
  where
    go : (j ≤ i) ⊎ (i < j) → (i < j → start_of l i + path_length_at l i ≤ start_of l j)
        → start_of l i + path_length_at l i ≤ start_of l j + path_length_at l j + contents_length (contents_mark_at l j)
    go (inl u) ih = let e : i ≡ j = omega arith in rw e (omega arith)
    go (inr u) ih = omega (arith, ih u)

-- where none of the first i paths is the one sought, it is missing as soon as it is missing among the rest
none_missing : (l : List ℕ) (p : Text) (i : ℕ) → 8 + 8 * entry_count l ≤ length l → i ≤ entry_count l
    → NoneBefore l p i → Missing l p i (start_of l i)
unfolding start_of
none_missing l p zero t h s = missing_start l p (entry_count l) refl t
none_missing l p (suc i) t h s =
    let m : Missing l p i (start_of l i) = none_missing l p i t (omega arith) (λ j u. s j (omega arith)) in
    let x : Missing l p (i + 1) (start_of l i + path_length_at l i + contents_length (contents_mark_at l i)) =
    missing_other l p i (start_of l i) (start_of l i + path_length_at l i) (omega arith) refl m _ (s i (omega arith))
    refl in
    rw add-one at x

module _ (l : List ℕ) (p : Text) (n i at : ℕ) (r : Reached l n i at) (s : NoneBefore l p i) where
  missing : Missing l p i at
  missing = rw r.place (none_missing l p i (omega (arith, r.count, r.tables)) (omega (arith, r.count, r.index)) s)

  pub none_at_all : at ≤ length l → n ≤ i → place_at l p ≡ no_entry
  none_at_all h k = missing_end l p i at missing h (omega (arith, r.count))

-- the path ends at e
module _ (l : List ℕ) (p : Text) (n i at e : ℕ) (r : Reached l n i at) (h : i < n) (end : e ≡ at + path_length_at l i)
  where
    inside : i < entry_count l
    inside = omega (arith, r.count)

    has : (leb e (length l) && equal (part l at e) p) ≡ has_path l p i
    has =
        ap (λ (m : ℕ). leb m (length l) && equal (part l at m) p) end
        ∙ ap (λ (a : ℕ). leb (a + path_length_at l i) (length l) && equal (part l a (a + path_length_at l i)) p) r.place

    pub has_here : {b : Bool} → b ≡ (leb e (length l) && equal (part l at e) p) → b ≡ true → has_path l p i ≡ true
    has_here t f = sym has ∙ sym t ∙ f

    pub none_next : {b : Bool} → b ≡ (leb e (length l) && equal (part l at e) p) → b ≡ false → NoneBefore l p i
        → NoneBefore l p (i + 1)
    none_next t f s j u = go (at_or_under i j)
      where
        go : (i ≤ j) ⊎ (j < i) → has_path l p j ≡ false
        go (inl v) = let e : j ≡ i = omega arith in ap (has_path l p) e ∙ sym has ∙ sym t ∙ f
        go (inr v) = s j v

    pub past_here : e ≤ length l → smaller p (part l at e) ≡ true → NoneBefore l p i → place_at l p ≡ no_entry
    past_here b t s = missing_past l p i at e inside end (missing l p n i at r s) b t

    pub ends_within : (j : ℕ) → i < j → start_of l j ≤ length l → e ≤ length l
    ends_within j u b = omega (arith, ends_before l i j u, r.place)

    -- a path before the first equal one that is not below it
    pub stop_none : (j : ℕ) → i < j → start_of l j ≤ length l → NoneBefore l p j → Stopping l p i at
        → smaller (part l at e) p ≡ false → no_entry ≡ place_at l p
    stop_none j u b s q t =
        let f : e ≤ length l = ends_within j u b in
        stop_past l p i at e inside end q f t (sym (match_inside l at e p f) ∙ has ∙ s i u)

    pub below_next : {x : ℕ} → smaller (part l at e) p ≡ true → x ≡ start_of l (i + 1) → Stopping l p i at
        → Stopping l p (i + 1) x
    below_next t q s =
        let f : e + contents_length (contents_mark_at l i) ≡ start_of l (i + 1) =
        omega (arith, r.place, start_next l i) in
        stop_below l p i at e inside end s _ t (q ∙ sym f)

    -- c is the mark of the contents
    module _ (c : ℕ) (mark : c ≡ contents_mark_at l i) where
      pub reached_next : {m : ℕ} → m ≡ contents_length c → m ≤ c → e < at + 4294967296 → c < 4294967296
          → Reached l n (i + 1) (e + m)
      reached_next b b' u v = record {
        count = r.count;
        few = r.few;
        tables = r.tables;
        index = omega arith;
        small = omega (arith, r.small);
        place = omega (arith, b, ap contents_length mark, r.place, start_next l i);
      }

      -- the first path not below is the one sought
      module _ (b : e ≤ length l) (s : Stopping l p i at) (t : has_path l p i ≡ true) where
        same : equal (part l at e) p ≡ true
        same = (and_true (leb e (length l)) (equal (part l at e) p) (has ∙ t)).1

        pub stop_directory : c ≡ directory_mark → place_of Directory ≡ place_at l p
        stop_directory d =
            let f : eqb (contents_mark_at l i) directory_mark ≡ true = eq-eqb _ _ (sym mark ∙ d) in
            rw f at (stop_same l p i at e inside end s _ b same refl)

        pub stop_file : {m : ℕ} → (c ≡ directory_mark → ⊥) → m ≡ min (e + c) (length l)
            → place_of (File e m) ≡ place_at l p
        unfolding contents_length
        stop_file d q =
            let f : eqb (contents_mark_at l i) directory_mark ≡ false = ne_eqb _ _ (λ z. d (mark ∙ z)) in
            let g : c ≡ contents_length (contents_mark_at l i) = mark ∙ sym (rw f) in
            rw f at (stop_same l p i at e inside end s _ b same (q ∙ ap (λ (v : ℕ). min (e + v) (length l)) g))

-- no path is before the first
pub stop_first : (l : List ℕ) (p : Text) (n i at : ℕ) → Reached l n i at → i ≡ 0 → Stopping l p i at
stop_first l p n i at r e =
    let z : at ≡ 8 + 8 * n = r.place ∙ ap (start_of l) e ∙ sym (start_first l n r.count) in
    rw (e, z) (stop_start l p n r.count r.tables)

-- the path that is sought lies within the bytes
pub has_within : (l : List ℕ) (p : Text) (i : ℕ) → has_path l p i ≡ true → start_of l i + path_length_at l i ≤ length l
has_within l p i t = leb-true _ _ (and_true _ _ t).0

-- a path is below where all the bytes from it on are
pub rest_below : (l : List ℕ) (p : Text) (at k : ℕ) → smaller (drop at l) p ≡ true → smaller (part l at k) p ≡ true
rest_below l p at k h = smaller_take (k - at) (drop at l) p h

-- what a search by places says of the listing
pub searched : (l : List ℕ) (p : Text) (r : Found) → place_of r ≡ place_at l p → Searched l p r
unfolding viewed
searched l p r e = record {
  entry = seen_viewed r ∙ ap (viewed l) e ∙ (found_viewed l p).0;
  place = e;
  inside =
      within r (rw (← e) at (found_viewed l p).1);
}
  where
    seen_viewed : (r : Found) → seen l r ≡ viewed l (place_of r)
    seen_viewed Absent = refl
    seen_viewed Directory = refl
    seen_viewed (File a e) = refl

    within : (r : Found) → InBytes l (place_of r) → Inside l r
    within Absent h = tt
    within Directory h = tt
    within (File a e) h = h
