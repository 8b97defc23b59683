-- The chosen key is the same in every order of the members.
use Rattle.std.specs.Prelude.{◌≡◌, Bool, not, ◌&&◌, ◌||◌, List, [], ◌∷◌, ◌⊎◌, length, drop, take, leb, ltb, if◌then◌else◌}
use Rattle.std.proofs.Math.Path.{refl}
use Rattle.std.proofs.Common.{sym, ◌∙◌, ap, mul-le-mul_right, suc-mul, true≢false, inl, inr, eqb-true, leb-true, leb-false, lt-ltb, le-ltb}
use Prim.Native.Nat.{ℕ, suc, ◌+◌, ◌-◌, ◌*◌, ◌≤◌, ◌<◌, Ordering, compare}
use Rattle.std.proofs.Math.Nat.{sub-zero}
use native.Mathlib.Omega.{arith}
use Rattle.std.proofs.Math.Bool.{true, false}
use Rattle.std.proofs.lemmas.Bool.{false≢true, eqb-false}
use Rattle.std.proofs.Math.Option.{Option, none, some}
use Rattle.std.proofs.Math.Seq.{drop-length}
use Rattle.std.proofs.Math.Dec.{is_le, compare_is_eq}
use Rattle.definition.specs.Text.{text, star, equal, starts_with, ends_with, contains, before, after}
use Rattle.laws.specs.TextLaws.{and_true, equal_true, starts_with_take, starts_with_length, ends_with_drop, before_after, before_after_length}
use Rattle.definition.specs.Exports.{base_length, greater_first, PATTERN_KEY_COMPARE, is_gt, star_match, is_subpath_key, pattern_match, is_match, matches}

-- the native comparison as facts
compare_lt : (m n : ℕ) → compare m n ≡ Ordering.lt → m < n
compare_lt m n e = omega (arith, leb-true m n (ap is_le e), eqb-false m n (ap compare_is_eq e))

compare_gt : (m n : ℕ) → compare m n ≡ Ordering.gt → n < m
compare_gt m n e = leb-false m n (ap is_le e)

compare_eq : (m n : ℕ) → compare m n ≡ Ordering.eq → m ≡ n
compare_eq m n e = eqb-true m n (ap compare_is_eq e)

-- what a matching key is: of a pattern key, both parts are cut from the match key; a folder key is its beginning
pub data Kind (mk k : List ℕ) : Type 0 where
  pattern : contains star k ≡ true
      → before star k ≡ take (length (before star k)) mk → length (before star k) ≤ length mk
      → after star k ≡ drop (length mk - length (after star k)) mk → length k ≤ suc (length mk) → Kind mk k
  folder : contains star k ≡ false → k ≡ take (length k) mk → length k ≤ length mk → Kind mk k

pub some_if : (b : Bool) (m : List ℕ) → is_match (if b then some m else none) ≡ true → b ≡ true
unfolding is_match
some_if true m h = refl
some_if false m h = h

pub none_if : (b : Bool) (x : Option (List ℕ)) → is_match (if not b then none else x) ≡ true → is_match x ≡ true
unfolding is_match
none_if true x h = h
none_if false x h = absurd (false≢true h)

pub either_if : (b : Bool) (x y : Option (List ℕ)) → is_match (if b then x else y) ≡ true → ((b ≡ true) × (is_match x ≡ true)) ⊎ ((b ≡ false) × (is_match y ≡ true))
either_if true x y h = inl (refl, h)
either_if false x y h = inr (refl, h)

pub or-true : (a b : Bool) → a || b ≡ true → (a ≡ true) ⊎ (b ≡ true)
or-true true b e = inl refl
or-true false b e = inr e

empty_suffix : (t mk : List ℕ) → t ≡ [] → t ≡ drop (length mk - length t) mk
empty_suffix t mk e = rw e (simp (sub-zero, drop-length))

pub kind_of_lem : (mk k : List ℕ) → matches mk k ≡ true → Kind mk k
unfolding matches pattern_match star_match
kind_of_lem mk k h = go (either_if (contains star k) _ _ (none_if (is_subpath_key k) _ h))
  where
    base : List ℕ
    base = before star k

    trailer : List ℕ
    trailer = after star k

    suffix : (equal trailer [] ≡ true) ⊎ (leb (length k) (length mk) && ends_with trailer mk ≡ true) → contains star k ≡ true → starts_with base mk ≡ true → Kind mk k
    suffix (inl e) c b =
        let z : trailer ≡ [] = equal_true _ _ e in
        let w : length trailer ≡ 0 = ap length z in
        pattern c (starts_with_take base mk b) (starts_with_length base mk b) (empty_suffix trailer mk z)
        (omega (arith, before_after_length star k c, starts_with_length base mk b))
    suffix (inr e) c b =
        let q : (leb (length k) (length mk) ≡ true) × (ends_with trailer mk ≡ true) = and_true _ _ e in
        pattern c (starts_with_take base mk b) (starts_with_length base mk b) (ends_with_drop trailer mk q.1).0
        (omega (arith, leb-true (length k) (length mk) q.0))

    go : ((contains star k ≡ true) × (is_match (star_match mk k base trailer) ≡ true)) ⊎ ((contains star k ≡ false) × (is_match (if ends_with (text "/") k && starts_with k mk then some (drop (length k) mk) else none) ≡ true)) → Kind mk k
    go (inl p) =
        let whole : starts_with base mk && not (contains star trailer) && (equal trailer [] || (leb (length k) (length mk) && ends_with trailer mk)) ≡ true = some_if _ _ p.1 in
        let t : (starts_with base mk && not (contains star trailer) ≡ true) × (equal trailer [] || (leb (length k) (length mk) && ends_with trailer mk) ≡ true) = and_true _ _ whole in
        suffix (or-true _ _ t.1) p.0 (and_true (starts_with base mk) (not (contains star trailer)) t.0).0
    go (inr p) =
        let both : ends_with (text "/") k && starts_with k mk ≡ true = some_if _ _ p.1 in
        let b : starts_with k mk ≡ true = (and_true (ends_with (text "/") k) (starts_with k mk) both).1 in
        folder p.0 (starts_with_take k mk b) (starts_with_length k mk b)

-- the order of preference as a number: the base first, then a pattern key before a folder key, then the length
star_length : List ℕ → ℕ
star_length k = if contains star k then length k else 0

pub rank : List ℕ → List ℕ → ℕ
rank mk k = base_length k * (length mk + 2) + star_length k

-- a pair of numbers, the second below w, by one number
lex_lt : (a b x y w : ℕ) → a < b → x < w → a * w + x < b * w + y
lex_lt a b x y w h k =
    let p : suc a * w ≤ b * w = mul-le-mul_right w h in
    omega (arith, suc-mul a w)

lex_le : (a b x y w : ℕ) → a < b → x < w → a * w + x ≤ b * w + y
lex_le a b x y w h k = omega (arith, lex_lt a b x y w h k)

-- PATTERN_KEY_COMPARE as an order of numbers, for any two keys that are not two folder keys of one length
module _ (la lb na nb w : ℕ) (ha : na < w) (hb : nb < w) (pa : 0 < na) (pb : 0 < nb) where
  as_number : (sa sb : Bool) → (sa ≡ false → sb ≡ false → la ≡ lb → ⊥)
      → is_gt (greater_first (compare la lb) (if not sa then Ordering.gt else if not sb then Ordering.lt else greater_first (compare na nb) Ordering.eq))
      ≡ ltb (la * w + (if sa then na else 0)) (lb * w + (if sb then nb else 0))
  unfolding is_gt greater_first
  as_number sa sb no_two = go (compare la lb) refl sa sb no_two
    where
      below : (s : Bool) (n : ℕ) → n < w → (if s then n else 0) < w
      below true n h = h
      below false n h = omega arith

      last : (o : Ordering) → compare na nb ≡ o → la ≡ lb → is_gt (greater_first o Ordering.eq) ≡ ltb (la * w + na) (lb * w + nb)
      last Ordering.lt e q = sym (lt-ltb (la * w + na) (lb * w + nb) (omega (arith, compare_lt na nb e, ap (λ x. x * w) q)))
      last Ordering.eq e q = sym (le-ltb (la * w + na) (lb * w + nb) (omega (arith, compare_eq na nb e, ap (λ x. x * w) q)))
      last Ordering.gt e q = sym (le-ltb (la * w + na) (lb * w + nb) (omega (arith, compare_gt na nb e, ap (λ x. x * w) q)))

      go : (o : Ordering) → compare la lb ≡ o → (sa sb : Bool) → (sa ≡ false → sb ≡ false → la ≡ lb → ⊥)
          → is_gt (greater_first (compare la lb) (if not sa then Ordering.gt else if not sb then Ordering.lt else greater_first (compare na nb) Ordering.eq))
          ≡ ltb (la * w + (if sa then na else 0)) (lb * w + (if sb then nb else 0))
      go Ordering.lt e sa sb f = rw e (sym (lt-ltb _ _ (lex_lt la lb _ _ w (compare_lt la lb e) (below sa na ha))))
      go Ordering.gt e sa sb f = rw e (sym (le-ltb _ _ (lex_le lb la _ _ w (compare_gt la lb e) (below sb nb hb))))
      go Ordering.eq e true true f = rw e (last (compare na nb) refl (compare_eq la lb e))
      go Ordering.eq e true false f = rw e (sym (le-ltb (la * w + na) (lb * w + 0) (omega (arith, ap (λ x. x * w) (compare_eq la lb e)))))
      go Ordering.eq e false true f = rw e (sym (lt-ltb (la * w + 0) (lb * w + nb) (omega (arith, ap (λ x. x * w) (compare_eq la lb e)))))
      go Ordering.eq e false false f = absurd (f refl refl (compare_eq la lb e))

lex_inj : (a b x y w : ℕ) → x < w → y < w → a * w + x ≡ b * w + y → (a ≡ b) × (x ≡ y)
lex_inj a b x y w hx hy h = go (compare a b) refl
  where
    go : (o : Ordering) → compare a b ≡ o → (a ≡ b) × (x ≡ y)
    go Ordering.lt e = absurd (omega (arith, lex_lt a b x y w (compare_lt a b e) hx))
    go Ordering.gt e = absurd (omega (arith, lex_lt b a y x w (compare_gt a b e) hy))
    go Ordering.eq e = (compare_eq a b e, omega (arith, ap (λ n. n * w) (compare_eq a b e)))

-- a matching key is not empty
pub matches_length : (mk k : List ℕ) → matches mk k ≡ true → 0 < length k
unfolding matches pattern_match is_match is_subpath_key starts_with
matches_length mk [] h = absurd (false≢true h)
matches_length mk (b ∷ s) h = omega arith

length_bound : (mk k : List ℕ) → Kind mk k → length k < length mk + 2
length_bound mk k (pattern c b l a n) = omega arith
length_bound mk k (folder c b l) = omega arith

star_length_bound : (mk k : List ℕ) → Kind mk k → star_length k < length mk + 2
unfolding star_length
star_length_bound mk k (pattern c b l a n) = rw c (omega arith)
star_length_bound mk k (folder c b l) = rw c (omega arith)

-- two folder keys of one length are one key
folder_eq : (mk a b : List ℕ) → a ≡ take (length a) mk → b ≡ take (length b) mk → length a ≡ length b → a ≡ b
folder_eq mk a b p q e = cc

-- two pattern keys with bases of one length, and of one length, are one key
pattern_eq : (mk a b : List ℕ) → contains star a ≡ true → contains star b ≡ true
    → before star a ≡ take (length (before star a)) mk → before star b ≡ take (length (before star b)) mk
    → after star a ≡ drop (length mk - length (after star a)) mk → after star b ≡ drop (length mk - length (after star b)) mk
    → length (before star a) ≡ length (before star b) → length a ≡ length b → a ≡ b
pattern_eq mk a b ca cb pa pb qa qb l n =
    let m : length (after star a) ≡ length (after star b) = omega (arith, before_after_length star a ca, before_after_length star b cb) in
    cc (before_after star a ca, before_after star b cb)

-- the rank tells matching keys apart
pub rank_inj : (mk a b : List ℕ) → matches mk a ≡ true → matches mk b ≡ true → rank mk a ≡ rank mk b → a ≡ b
unfolding rank base_length star_length
rank_inj mk a b ma mb e =
    go (kind_of_lem mk a ma) (kind_of_lem mk b mb)
    (lex_inj (base_length a) (base_length b) (star_length a) (star_length b) (length mk + 2) (star_length_bound mk a (kind_of_lem mk a ma)) (star_length_bound mk b (kind_of_lem mk b mb)) e)
  where
    za : 0 < length a
    za = matches_length mk a ma

    zb : 0 < length b
    zb = matches_length mk b mb

    go : Kind mk a → Kind mk b → (base_length a ≡ base_length b) × (star_length a ≡ star_length b) → a ≡ b
    go (pattern ca pa la qa na) (pattern cb pb lb qb nb) h =
        let x : suc (length (before star a)) ≡ suc (length (before star b)) = rw (ca, cb) at h.0 in
        let y : length a ≡ length b = rw (ca, cb) at h.1 in
        pattern_eq mk a b ca cb pa pb qa qb (omega arith) y
    go (pattern ca pa la qa na) (folder cb pb lb) h =
        let y : length a ≡ 0 = rw (ca, cb) at h.1 in
        absurd (omega (arith, za))
    go (folder ca pa la) (pattern cb pb lb qb nb) h =
        let y : 0 ≡ length b = rw (ca, cb) at h.1 in
        absurd (omega (arith, zb))
    go (folder ca pa la) (folder cb pb lb) h =
        let x : length a ≡ length b = rw (ca, cb) at h.0 in
        folder_eq mk a b pa pb x

-- two different matching keys: the comparison is that of the ranks
pub compare_rank : (mk a b : List ℕ) → matches mk a ≡ true → matches mk b ≡ true → (a ≡ b → ⊥)
    → is_gt (PATTERN_KEY_COMPARE a b) ≡ ltb (rank mk a) (rank mk b)
unfolding PATTERN_KEY_COMPARE rank star_length base_length
compare_rank mk [] b ma mb d =
    let z : 0 < 0 = matches_length mk [] ma in
    absurd (omega arith)
compare_rank mk (c ∷ s) b ma mb d =
    as_number (base_length (c ∷ s)) (base_length b) (length (c ∷ s)) (length b) (length mk + 2)
    (length_bound mk (c ∷ s) (kind_of_lem mk (c ∷ s) ma)) (length_bound mk b (kind_of_lem mk b mb))
    (matches_length mk (c ∷ s) ma) (matches_length mk b mb)
    (contains star (c ∷ s)) (contains star b) (no_two (kind_of_lem mk (c ∷ s) ma) (kind_of_lem mk b mb))
  where
    no_two : Kind mk (c ∷ s) → Kind mk b → contains star (c ∷ s) ≡ false → contains star b ≡ false → base_length (c ∷ s) ≡ base_length b → ⊥
    no_two (pattern ca pa la qa na) k x y z = true≢false (sym ca ∙ x)
    no_two (folder ca pa la) (pattern cb pb lb qb nb) x y z = true≢false (sym cb ∙ y)
    no_two (folder ca pa la) (folder cb pb lb) x y z =
        let l : length (c ∷ s) ≡ length b = rw (x, y) at z in
        d (folder_eq mk (c ∷ s) b pa pb l)
