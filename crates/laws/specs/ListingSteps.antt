-- The listing at a place: what a loop over its bytes uses, with the entry's index i and the offset of its path.
use Rattle.std.specs.Prelude.{◌≡◌, Bool, true, false, ◌&&◌, List, [], ◌∷◌, ℕ, suc, ◌+◌, ◌-◌, ◌*◌, ◌≤◌, ◌<◌, min, length, drop, take, get_or, eqb, leb, ◌⊎◌}
use Rattle.std.proofs.Math.Path.{refl}
use Rattle.std.proofs.Common.{sym, ◌∙◌, ap, arith, length-drop, length-take, drop_of_length-le, drop-drop, get_or-drop, take_all, leb-true, leb-false, le-leb, eqb-true, inl, inr}
use Rattle.laws.specs.TextLaws.{and_true, equal_true}
use Rattle.std.proofs.Math.Seq.{take-nil}
use Rattle.definition.specs.Listing.{no_entry, number32, entry_count, directory_mark, contents_length, lengths_from, Row, rows_from, rows, entry_of, entry_in, rising, first_is_root, sizes_fit, text_length}
use Rattle.definition.specs.Text.{Text, text, equal, smaller, all}
use Rattle.std.proofs.lemmas.Bool.{lt-leb}
use Rattle.laws.specs.TextSteps.{equal_lengths}

-- the two lengths of the i-th entry, and the entry whose path begins at the offset
unfoldable pub path_length_at : List ℕ → ℕ → ℕ
path_length_at l i = number32 (drop (8 + 4 * i) l)

unfoldable pub contents_mark_at : List ℕ → ℕ → ℕ
contents_mark_at l i = number32 (drop (8 + 4 * entry_count l + 4 * i) l)

unfoldable row_at : List ℕ → ℕ → ℕ → Row
row_at l i at = record {
  path = take (path_length_at l i) (drop at l);
  is_directory = eqb (contents_mark_at l i) directory_mark;
  contents = take (contents_length (contents_mark_at l i)) (drop (path_length_at l i) (drop at l));
}

unfoldable next_at : List ℕ → ℕ → ℕ → ℕ
next_at l i at = at + (path_length_at l i + contents_length (contents_mark_at l i))

-- the entries from the i-th on
unfoldable pub rows_at : List ℕ → ℕ → ℕ → List Row
rows_at l i at = rows_from (entry_count l - i) (drop (8 + 4 * i) l) (drop (8 + 4 * entry_count l + 4 * i) l) (drop at l)

rows_start : (l : List ℕ) → rows l ≡ rows_at l 0 (8 + 8 * entry_count l)
unfolding rows rows_at
rows_start l =
    let n = entry_count l in
    let a : n ≡ n - 0 = omega arith in
    let b : 8 + 4 * n ≡ 8 + 4 * n + 4 * 0 = omega arith in
    ap (λ (k : ℕ). rows_from k (drop 8 l) (drop (8 + 4 * n) l) (drop (8 + 8 * n) l)) a ∙ ap (λ (k : ℕ). rows_from (n - 0) (drop 8 l) (drop k l) (drop (8 + 8 * n) l)) b

pub rows_end : (l : List ℕ) (i at : ℕ) → entry_count l ≤ i → rows_at l i at ≡ []
unfolding rows_at rows_from
rows_end l i at h = let z : entry_count l - i ≡ 0 = omega arith in rw z

rows_next : (l : List ℕ) (i at : ℕ) → i < entry_count l → rows_at l i at ≡ row_at l i at ∷ rows_at l (i + 1) (next_at l i at)
unfolding rows_at row_at next_at path_length_at contents_mark_at
rows_next l i at h =
    let n = entry_count l in
    let z : n - i ≡ suc (n - (i + 1)) = omega arith in
    let a : 8 + 4 * i + 4 ≡ 8 + 4 * (i + 1) = omega arith in
    let b : 8 + 4 * n + 4 * i + 4 ≡ 8 + 4 * n + 4 * (i + 1) = omega arith in
    let p : drop 4 (drop (8 + 4 * i) l) ≡ drop (8 + 4 * (i + 1)) l = drop-drop 4 (8 + 4 * i) l ∙ ap (λ (k : ℕ). drop k l) a in
    let c : drop 4 (drop (8 + 4 * n + 4 * i) l) ≡ drop (8 + 4 * n + 4 * (i + 1)) l = drop-drop 4 (8 + 4 * n + 4 * i) l ∙ ap (λ (k : ℕ). drop k l) b in
    ap (λ (k : ℕ). rows_from k (drop (8 + 4 * i) l) (drop (8 + 4 * n + 4 * i) l) (drop at l)) z ∙ one (n - (i + 1)) (drop (8 + 4 * i) l) (drop (8 + 4 * n + 4 * i) l) (drop at l)
    ∙ rw (p, c, drop-drop (number32 (drop (8 + 4 * i) l) + contents_length (number32 (drop (8 + 4 * n + 4 * i) l))) at l)
  where
    one : (k : ℕ) (ps cs t : List ℕ) → rows_from (suc k) ps cs t ≡ record { path = take (number32 ps) t; is_directory = eqb (number32 cs) directory_mark; contents = take (contents_length (number32 cs)) (drop (number32 ps) t) } ∷ rows_from k (drop 4 ps) (drop 4 cs) (drop (number32 ps + contents_length (number32 cs)) t)
    one k ps cs t = unfold rows_from in refl

-- a number of 32 bits by its bytes
pub number_at : (l : List ℕ) (k : ℕ) → number32 (drop k l) ≡ get_or l k 0 + 256 * (get_or l (k + 1) 0 + 256 * (get_or l (k + 2) 0 + 256 * get_or l (k + 3) 0))
unfolding number32
number_at l k = let z : k + 0 ≡ k = omega arith in rw (get_or-drop k l 0 0, get_or-drop k l 1 0, get_or-drop k l 2 0, get_or-drop k l 3 0, z)

-- a part of a list may be asked for past its end
pub at_or_under : (m n : ℕ) → (m ≤ n) ⊎ (n < m)
at_or_under m n = go (leb m n) refl
  where
    go : (b : Bool) → leb m n ≡ b → (m ≤ n) ⊎ (n < m)
    go true e = inl (leb-true m n e)
    go false e = inr (leb-false m n e)

module _ (l : List ℕ) where
  drop_min : (a : ℕ) → drop a l ≡ drop (min a (length l)) l
  drop_min a = go (at_or_under (length l) a)
    where
      go : (length l ≤ a) ⊎ (a < length l) → drop a l ≡ drop (min a (length l)) l
      go (inl h) = let k : length l ≤ min a (length l) = omega arith in drop_of_length-le l h ∙ sym (drop_of_length-le l k)
      go (inr h) = let k : a ≡ min a (length l) = omega arith in ap (λ (n : ℕ). drop n l) k

  take_min : (a : ℕ) → take a l ≡ take (min a (length l)) l
  take_min a = go (at_or_under (length l) a)
    where
      go : (length l ≤ a) ⊎ (a < length l) → take a l ≡ take (min a (length l)) l
      go (inl h) = let k : length l ≤ min a (length l) = omega arith in take_all _ l h ∙ sym (take_all _ l k)
      go (inr h) = let k : a ≡ min a (length l) = omega arith in ap (λ (n : ℕ). take n l) k

  drop_clamped : (a b : ℕ) → min a (length l) ≡ min b (length l) → drop a l ≡ drop b l
  drop_clamped a b e = drop_min a ∙ ap (λ (n : ℕ). drop n l) e ∙ sym (drop_min b)

  take_clamped : (a b : ℕ) → min a (length l) ≡ min b (length l) → take a l ≡ take b l
  take_clamped a b e = take_min a ∙ ap (λ (n : ℕ). take n l) e ∙ sym (take_min b)

rows_clamped : (l : List ℕ) (i a b : ℕ) → min a (length l) ≡ min b (length l) → rows_at l i a ≡ rows_at l i b
unfolding rows_at
rows_clamped l i a b e = ap (λ t. rows_from (entry_count l - i) (drop (8 + 4 * i) l) (drop (8 + 4 * entry_count l + 4 * i) l) t) (drop_clamped l a b e)

pub rows_begin : (l : List ℕ) (n at : ℕ) → n ≡ entry_count l → at ≡ min (0 + (8 + 8 * n)) (length l) → rows l ≡ rows_at l 0 at
rows_begin l n at e h = rows_start l ∙ rows_clamped l 0 (8 + 8 * entry_count l) at (omega arith)

-- the bytes from a to e
abbrev pub part : List ℕ → ℕ → ℕ → List ℕ
part l a e = take (e - a) (drop a l)

-- an entry by its ends: the path from at to e, the contents from e to x
abbrev pub row_by : List ℕ → ℕ → ℕ → ℕ → Bool → Row
row_by l at e x d = record { path = part l at e; is_directory = d; contents = part l e x }

-- the first entry of those from the i-th on, its ends clamped to the end of the bytes
pub rows_place : (l : List ℕ) (i at e x : ℕ) → i < entry_count l → at ≤ length l
    → e ≡ min (at + path_length_at l i) (length l) → x ≡ min (e + contents_length (contents_mark_at l i)) (length l)
    → rows_at l i at ≡ row_by l at e x (eqb (contents_mark_at l i) directory_mark) ∷ rows_at l (i + 1) x
unfolding row_at next_at
rows_place l i at e x h k p q =
    let m = path_length_at l i in
    let c = contents_length (contents_mark_at l i) in
    let a : take m (drop at l) ≡ take (e - at) (drop at l) = take_clamped (drop at l) m (e - at) (omega (arith, length-drop at l)) in
    let b : drop (at + m) l ≡ drop e l = drop_clamped l (at + m) e (omega arith) in
    let d : take c (drop e l) ≡ take (x - e) (drop e l) = take_clamped (drop e l) c (x - e) (omega (arith, length-drop e l)) in
    let f : drop m (drop at l) ≡ drop e l = drop-drop m at l ∙ b in
    let g : take c (drop m (drop at l)) ≡ take (x - e) (drop e l) = ap (take c) f ∙ d in
    let j : rows_at l (i + 1) (at + (m + c)) ≡ rows_at l (i + 1) x = rows_clamped l (i + 1) (at + (m + c)) x (omega arith) in
    rows_next l i at h ∙ cc

-- the sum of the lengths from the i-th entry on
unfoldable pub lengths_at : List ℕ → ℕ → ℕ
lengths_at l i = lengths_from (entry_count l - i) (drop (8 + 4 * i) l) (drop (8 + 4 * entry_count l + 4 * i) l)

pub lengths_end : (l : List ℕ) (i : ℕ) → entry_count l ≤ i → lengths_at l i ≡ 0
unfolding lengths_at lengths_from
lengths_end l i h = let z : entry_count l - i ≡ 0 = omega arith in rw z

pub lengths_next : (l : List ℕ) (i : ℕ) → i < entry_count l → lengths_at l i ≡ path_length_at l i + contents_length (contents_mark_at l i) + lengths_at l (i + 1)
unfolding lengths_at path_length_at contents_mark_at
lengths_next l i h =
    let n = entry_count l in
    let z : n - i ≡ suc (n - (i + 1)) = omega arith in
    let a : 8 + 4 * i + 4 ≡ 8 + 4 * (i + 1) = omega arith in
    let b : 8 + 4 * n + 4 * i + 4 ≡ 8 + 4 * n + 4 * (i + 1) = omega arith in
    let p : drop 4 (drop (8 + 4 * i) l) ≡ drop (8 + 4 * (i + 1)) l = drop-drop 4 (8 + 4 * i) l ∙ ap (λ (k : ℕ). drop k l) a in
    let c : drop 4 (drop (8 + 4 * n + 4 * i) l) ≡ drop (8 + 4 * n + 4 * (i + 1)) l = drop-drop 4 (8 + 4 * n + 4 * i) l ∙ ap (λ (k : ℕ). drop k l) b in
    ap (λ (k : ℕ). lengths_from k (drop (8 + 4 * i) l) (drop (8 + 4 * n + 4 * i) l)) z ∙ one (n - (i + 1)) (drop (8 + 4 * i) l) (drop (8 + 4 * n + 4 * i) l) ∙ rw (p, c)
  where
    one : (k : ℕ) (ps cs : List ℕ) → lengths_from (suc k) ps cs ≡ number32 ps + contents_length (number32 cs) + lengths_from k (drop 4 ps) (drop 4 cs)
    one k ps cs = unfold lengths_from in refl

-- the sizes fit: the tables lie within the bytes, and so does each entry
pub record Standing (l : List ℕ) (n i at : ℕ) : Type 0 where
  pub number : n ≡ entry_count l
  pub some : 1 ≤ n
  pub few : n ≤ 1024
  pub tables : 8 + 8 * n ≤ length l
  pub left : at + lengths_at l i ≡ length l

pub standing_start : (l : List ℕ) (n : ℕ) → sizes_fit l ≡ true → n ≡ entry_count l → Standing l n 0 (8 + 8 * n)
unfolding sizes_fit lengths_at
standing_start l n e h =
    let t = text_length l in
    let k = lengths_from (entry_count l) (drop 8 l) (drop (8 + 4 * entry_count l) l) in
    let a : (leb (length l) 65536 && leb 1 (entry_count l) && leb (entry_count l) 1024 && eqb (length l) (8 + 8 * entry_count l + t) ≡ true) × (eqb k t ≡ true) = and_true _ _ e in
    let b : (leb (length l) 65536 && leb 1 (entry_count l) && leb (entry_count l) 1024 ≡ true) × (eqb (length l) (8 + 8 * entry_count l + t) ≡ true) = and_true _ _ a.0 in
    let c : (leb (length l) 65536 && leb 1 (entry_count l) ≡ true) × (leb (entry_count l) 1024 ≡ true) = and_true _ _ b.0 in
    let o : (leb (length l) 65536 ≡ true) × (leb 1 (entry_count l) ≡ true) = and_true _ _ c.0 in
    let f : length l ≡ 8 + 8 * entry_count l + t = eqb-true _ _ b.1 in
    let g : k ≡ t = eqb-true _ _ a.1 in
    let m : entry_count l ≤ 1024 = leb-true _ _ c.1 in
    let k' : 1 ≤ entry_count l = leb-true _ _ o.1 in
    let x : entry_count l - 0 ≡ entry_count l = omega arith in
    let y : 8 + 4 * entry_count l + 4 * 0 ≡ 8 + 4 * entry_count l = omega arith in
    record { number = h; some = omega arith; few = omega arith; tables = omega arith; left = rw (x, y) (omega arith) }

pub rows_stand : {l : List ℕ} {n : ℕ} → Standing l n 0 (8 + 8 * n) → rows l ≡ rows_at l 0 (8 + 8 * n)
rows_stand {l} {n} s = rows_begin l n (8 + 8 * n) s.number (omega (arith, s.tables))

-- the first of the entries from the i-th on
module _ (l : List ℕ) (n i at e x : ℕ) (s : Standing l n i at) (h : i < n) (p : e ≡ at + path_length_at l i) (q : x ≡ e + contents_length (contents_mark_at l i)) where
  next_left : x + lengths_at l (i + 1) ≡ length l
  next_left = omega (arith, lengths_next l i (omega (arith, s.number)), s.left)

  pub standing_next : Standing l n (i + 1) x
  standing_next = record { number = s.number; some = s.some; few = s.few; tables = s.tables; left = next_left }

  pub standing_row : rows_at l i at ≡ row_by l at e x (eqb (contents_mark_at l i) directory_mark) ∷ rows_at l (i + 1) x
  standing_row = rows_place l i at e x (omega (arith, s.number)) (omega (arith, s.left)) (omega (arith, next_left)) (omega (arith, next_left))

  pub standing_inside : x ≤ length l
  standing_inside = omega (arith, next_left)

-- the order, with the path before
unfoldable pub rising_after : Text → List Row → Bool
rising_after p [] = true
rising_after p (r ∷ rs) = smaller p r.path && rising_after r.path rs

pub rising_after_lem : (r : Row) (rs : List Row) → rising (r ∷ rs) ≡ rising_after r.path rs
unfolding rising rising_after
rising_after_lem r [] = refl
rising_after_lem r (q ∷ rs) = ap (λ b. smaller r.path q.path && b) (rising_after_lem q rs)

-- a search, entry by entry
module _ {rs : List Row} {r : Row} {q : List Row} (p : Text) (e : rs ≡ r ∷ q) where
  pub entry_hit : equal r.path p ≡ true → entry_in rs p ≡ entry_of r
  unfolding entry_in
  entry_hit h = rw (e, h)

  pub entry_miss : equal r.path p ≡ false → entry_in rs p ≡ entry_in q p
  unfolding entry_in
  entry_miss h = rw (e, h)

pub entry_end : {rs : List Row} (p : Text) → rs ≡ [] → entry_in rs p ≡ no_entry
unfolding entry_in
entry_end p e = rw e

abbrev pub row : Text → Bool → List ℕ → Row
row p d c = record { path = p; is_directory = d; contents = c }

pub all_next : {A : Type 0} (f : A → Bool) {rs : List A} {r : A} {q : List A} → rs ≡ r ∷ q → {b : Bool} → f r ≡ b → all f rs ≡ (b && all f q)
unfolding all
all_next f e h = rw (e, h)

pub all_true : {A : Type 0} (f : A → Bool) {rs : List A} {r : A} {q : List A} → rs ≡ r ∷ q → all f rs ≡ true → (f r ≡ true) × (all f q ≡ true)
unfolding all
all_true f {rs} {r} {q} e h = and_true (f r) (all f q) (rw e at h)

pub all_end : {A : Type 0} (f : A → Bool) {rs : List A} → rs ≡ [] → all f rs ≡ true
unfolding all
all_end f e = rw e

pub sizes_is : (l : List ℕ) {a b c d e : Bool} → leb (length l) 65536 ≡ a → leb 1 (entry_count l) ≡ b → leb (entry_count l) 1024 ≡ c → eqb (length l) (8 + 8 * entry_count l + text_length l) ≡ d → eqb (lengths_at l 0) (text_length l) ≡ e
    → sizes_fit l ≡ (a && b && c && d && e)
unfolding sizes_fit lengths_at
sizes_is l h i j k m =
    let n = entry_count l in
    let x : n - 0 ≡ n = omega arith in
    let y : 8 + 4 * n + 4 * 0 ≡ 8 + 4 * n = omega arith in
    rw (h, i, j, k, ← m, x, y)

pub after_next : (p : Text) {rs : List Row} {r : Row} {q : List Row} → rs ≡ r ∷ q → {b : Bool} → smaller p r.path ≡ b → rising_after p rs ≡ (b && rising_after r.path q)
unfolding rising_after
after_next p e h = rw (e, h)

pub after_end : (p : Text) {rs : List Row} → rs ≡ [] → rising_after p rs ≡ true
unfolding rising_after
after_end p e = rw e

pub root_first : {rs : List Row} {r : Row} {q : List Row} → rs ≡ r ∷ q → {b : Bool} → equal r.path (text "/") ≡ b → first_is_root rs ≡ (b && r.is_directory)
unfolding first_is_root
root_first e h = rw (e, h)

pub part_length : (l : List ℕ) (a e : ℕ) → a ≤ e → e ≤ length l → length (part l a e) ≡ e - a
part_length l a e h k = length-take (e - a) (drop a l) ∙ omega (arith, length-drop a l)

pub root_length : (p : Text) → equal p (text "/") ≡ true → length p ≡ 1
root_length p e = ap length (equal_true p (text "/") e)

-- parts whose ends lie elsewhere than in order within the bytes
module _ (l : List ℕ) (a e : ℕ) where
  pub part_beyond : length l < a → part l 0 0 ≡ part l a e
  part_beyond h = sym (ap (take (e - a)) (drop_of_length-le l {i = a} (omega arith)) ∙ take-nil (e - a))

  pub part_reversed : e < a → part l a a ≡ part l a e
  part_reversed h = let x : a - a ≡ 0 = omega arith in let y : e - a ≡ 0 = omega arith in rw (x, y)

  pub part_rest : length l < e → take (length l - a) (drop a l) ≡ part l a e
  part_rest h = take_all (length l - a) (drop a l) (omega (arith, length-drop a l)) ∙ sym (take_all (e - a) (drop a l) (omega (arith, length-drop a l)))

-- two rules at once
pub all_both : {A : Type 0} (f g h : A → Bool) → ((a : A) → f a ≡ g a && h a) → (l : List A) → all f l ≡ all g l && all h l
unfolding all
all_both f g h e [] = refl
all_both f g h e (a ∷ l) = rw (e a, all_both f g h e l) (swap (g a) (h a) (all g l) (all h l))
  where
    swap : (a b c d : Bool) → (a && b) && (c && d) ≡ (a && c) && (b && d)
    swap true true c d = refl
    swap true false true d = refl
    swap true false false d = refl
    swap false b c d = refl

-- whether the path from a to e is p, its end within the bytes
module _ (l : List ℕ) (a e : ℕ) (p : Text) where
  pub match_beyond : length l < e → (leb e (length l) && equal (part l a e) p) ≡ false
  match_beyond h = rw (lt-leb e (length l) h)

  pub match_inside : e ≤ length l → (leb e (length l) && equal (part l a e) p) ≡ equal (part l a e) p
  match_inside h = rw (le-leb e (length l) h)

  pub match_long : a ≤ e → (e - a ≡ length p → ⊥) → (leb e (length l) && equal (part l a e) p) ≡ false
  match_long h k = go (at_or_under e (length l))
    where
      go : (e ≤ length l) ⊎ (length l < e) → (leb e (length l) && equal (part l a e) p) ≡ false
      go (inl i) = match_inside i ∙ equal_lengths _ _ (λ z. k (sym (part_length l a e h i) ∙ z))
      go (inr i) = match_beyond i
