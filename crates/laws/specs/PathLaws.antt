-- Facts about `Path`: the limit, `push`, components from a place on, lengths, the climb. Parents by the last slash: PathSteps.
use Rattle.std.specs.Prelude.{◌≡◌, Bool, ◌&&◌, ◌||◌, ◌⊎◌, leb, if◌then◌else◌}
use Rattle.std.proofs.Math.Path.{refl, sym, ap}
use Rattle.std.proofs.Common.{◌∙◌, inl, inr, ⊎_elim}
use Prim.Native.Nat.{ℕ, suc, ◌+◌, ◌-◌, ◌≤◌, ◌<◌}
use native.Mathlib.Omega.{arith}
use Rattle.std.proofs.Math.Bool.{true, false, false≢true}
use mathlib.Core.List.{List, [], ◌∷◌, ◌++◌, append-nil, flat_map}
use Rattle.std.proofs.Math.ListN.{length, drop, take, get_or, length-append}
use Rattle.std.proofs.Math.Seq.{drop-cons, drop-length, get_or-take}
use Rattle.std.proofs.Math.Dec.{eqb}
use borrow.Author.Tests.{le-leb, lt-leb, leb-true, leb-false, eqb-true, eqb-false, eq-eqb, ne_eqb}
use Rattle.definition.specs.Text.{text, slash, equal, starts_with, ends_with, contains, before, before_last, to_first, split, count, all}
use Rattle.laws.specs.TextLaws.{equal_true, and_true}
use Rattle.definition.specs.Listing.{is_component, is_path}
use Rattle.laws.specs.PathSteps.{split_at, behind_end, behind_more, starts_with_lem, starts_empty, last_inside, LastAt, last_found, last_missing, count_none}
use Rattle.definition.specs.Path.{Component, root_dir, cur_dir, parent_dir, normal, component, leading, components, push, or_root, parent, pops, Built, built, too_long, and_path, limited, push_component, push_all, normalize_onto, normalize_with, push_relative, normalize_relative, invalid_component, any_invalid, is_invalid_exports_target, add_extension, depth, climb, dirs}

-- the limit
module _ (p : List ℕ) where
  pub limited_fits : length p ≤ 2048 → limited p ≡ built p
  unfolding limited
  limited_fits h = rw (le-leb _ _ h)

  pub limited_long : 2048 < length p → limited p ≡ too_long
  unfolding limited
  limited_long h = rw (lt-leb _ _ h)

-- a text that is over-long stays so when more is appended
pub limited_append : (p s : List ℕ) → and_path (limited p) (λ q. limited (q ++ s)) ≡ limited (p ++ s)
limited_append p s = go (leb (length p) 2048) refl
  where
    go : (u : Bool) → leb (length p) 2048 ≡ u → and_path (limited p) (λ q. limited (q ++ s)) ≡ limited (p ++ s)
    go true h = rw (limited_fits p (leb-true _ _ h))
    go false h =
        let l : 2048 < length p = leb-false _ _ h in
        rw (limited_long p l) (sym (limited_long (p ++ s) (omega (arith, length-append p s))))

pub and_path_assoc : (b : Built) (f g : List ℕ → Built) → and_path (and_path b f) g ≡ and_path b (λ p. and_path (f p) g)
and_path_assoc (built p) f g = refl
and_path_assoc too_long f g = refl

-- a text appended to what a step gave
pub then_append : (b : Built) (f : List ℕ → List ℕ) (t : List ℕ) → and_path (and_path b (λ p. limited (f p))) (λ p. add_extension p t) ≡ and_path b (λ p. limited (f p ++ t))
unfolding add_extension
then_append (built p) f t = limited_append (f p) t
then_append too_long f t = refl

-- `push`: where the path ends in a slash, and where it does not
module _ (p c : List ℕ) (h : 0 < length p) where
  ends : ends_with (text "/") p ≡ eqb slash (get_or p (length p - 1) 0)
  unfolding ends_with equal
  ends =
      let i : length p - 1 < length p = omega arith in
      let k : suc (length p - 1) ≡ length p = omega arith in
      let d : drop (length p - 1) p ≡ get_or p (length p - 1) 0 ∷ [] = drop-cons p (length p - 1) 0 i ∙ rw (k, drop-length p) in
      rw (le-leb 1 (length p) h, d) (and_is (eqb slash (get_or p (length p - 1) 0)))
    where
      and_is : (t : Bool) → t && true ≡ t
      and_is true = refl
      and_is false = refl

  not_empty : equal p [] ≡ false
  unfolding equal
  not_empty = go p h
    where
      go : (p : List ℕ) → 0 < length p → equal p [] ≡ false
      go [] h = absurd (let z : ⊥ = omega arith in z)
      go (b ∷ p) h = refl

  pub push_slash : get_or p (length p - 1) 0 ≡ slash → push p c ≡ p ++ c
  unfolding push
  push_slash e = rw (not_empty, ends, eq-eqb _ _ (sym e))

  pub push_plain : (get_or p (length p - 1) 0 ≡ slash → ⊥) → push p c ≡ p ++ text "/" ++ c
  unfolding push
  push_plain e = rw (not_empty, ends, ne_eqb slash (get_or p (length p - 1) 0) (λ z. e (sym z)))

pub push_empty : (c : List ℕ) → push [] c ≡ c
unfolding push equal
push_empty c = refl

-- the components of the parts between slashes: what every loop over components runs over
unfoldable pub parts : List ℕ → List Component
parts s = flat_map component (split slash s)

-- the component of one part
module _ (s : List ℕ) where
  pub component_empty : length s ≡ 0 → component s ≡ []
  component_empty h = go s h
    where
      go : (s : List ℕ) → length s ≡ 0 → component s ≡ []
      go [] h = unfold component equal in refl
      go (b ∷ s) h = absurd (let z : ⊥ = omega arith in z)

  pub component_dot : equal s (text ".") ≡ true → component s ≡ []
  component_dot h = rw (equal_true s (text ".") h) (unfold component equal in refl)

  pub component_up : equal s (text "..") ≡ true → component s ≡ parent_dir ∷ []
  component_up h = rw (equal_true s (text "..") h) (unfold component equal in refl)

  pub component_name : (length s ≡ 0 → ⊥) → equal s (text ".") ≡ false → equal s (text "..") ≡ false → component s ≡ normal s ∷ []
  component_name n h k = go s n h k
    where
      go : (s : List ℕ) → (length s ≡ 0 → ⊥) → equal s (text ".") ≡ false → equal s (text "..") ≡ false → component s ≡ normal s ∷ []
      go [] n h k = absurd (n refl)
      go (b ∷ s) n h k = unfold component in (rw (h, k) (unfold equal in refl))

-- one step of such a loop: the next slash is at e
module _ (p : List ℕ) (at e : ℕ) (h : e ≡ at + length (before slash (drop at p))) where
  pub parts_more : e < length p → parts (drop at p) ≡ component (take (e - at) (drop at p)) ++ parts (drop (e + 1) p)
  unfolding parts flat_map
  parts_more k = rw (split_at slash p at e h, behind_more slash p e k)

  pub parts_last : length p ≤ e → parts (drop at p) ≡ component (take (e - at) (drop at p))
  unfolding parts flat_map
  parts_last k = rw (split_at slash p at e h, behind_end slash p e k, append-nil)

-- a path with a slash in front is absolute
pub rooted : (p : List ℕ) → 0 < length p → get_or p 0 0 ≡ slash → starts_with (text "/") p ≡ true
rooted p h e = starts_with_lem slash p h ∙ eq-eqb slash (get_or p 0 0) (sym e)

pub not_rooted : (p : List ℕ) → 0 < length p → (get_or p 0 0 ≡ slash → ⊥) → starts_with (text "/") p ≡ false
not_rooted p h n = starts_with_lem slash p h ∙ ne_eqb slash (get_or p 0 0) (λ e. n (sym e))

pub parts_rooted : (b : ℕ) (s : List ℕ) → eqb slash b ≡ true → parts (b ∷ s) ≡ parts s
unfolding parts split flat_map
parts_rooted b s h = rw (eq-eqb b slash (sym (eqb-true slash b h))) (unfold component equal in refl)

-- components by parts: of an absolute path, and of any other, where a leading "." is one more
pub components_rooted : (p : List ℕ) → starts_with (text "/") p ≡ true → components p ≡ root_dir ∷ parts p
unfolding components parts
components_rooted p h = rw h

leading_is : (ps : List (List ℕ)) → (leading ps ≡ flat_map component ps) ⊎ (leading ps ≡ cur_dir ∷ flat_map component ps)
unfolding leading flat_map
leading_is [] = inl refl
leading_is (s ∷ ps) = go (equal s (text ".")) refl
  where
    go : (u : Bool) → equal s (text ".") ≡ u → ((if u then cur_dir ∷ [] else component s) ++ flat_map component ps ≡ component s ++ flat_map component ps) ⊎ ((if u then cur_dir ∷ [] else component s) ++ flat_map component ps ≡ cur_dir ∷ component s ++ flat_map component ps)
    go true k = inr (rw (component_dot s k))
    go false k = inl refl

pub components_relative : (p : List ℕ) → starts_with (text "/") p ≡ false → (components p ≡ parts p) ⊎ (components p ≡ cur_dir ∷ parts p)
unfolding components parts
components_relative p h = rw h (leading_is (split slash p))

-- `is_invalid_exports_target` goes by parts
pub any_invalid_append : (cs ds : List Component) → any_invalid (cs ++ ds) ≡ any_invalid cs || any_invalid ds
unfolding any_invalid
any_invalid_append [] ds = refl
any_invalid_append (c ∷ cs) ds = rw (any_invalid_append cs ds) (or_assoc (invalid_component c) (any_invalid cs) (any_invalid ds))
  where
    or_assoc : (a b c : Bool) → a || (b || c) ≡ (a || b) || c
    or_assoc true b c = refl
    or_assoc false b c = refl

pub invalid_parts : (t : List ℕ) → is_invalid_exports_target t ≡ any_invalid (parts t)
unfolding is_invalid_exports_target any_invalid invalid_component
invalid_parts t = go (starts_with (text "/") t) refl
  where
    go : (u : Bool) → starts_with (text "/") t ≡ u → any_invalid (components t) ≡ any_invalid (parts t)
    go true h = rw (components_rooted t h)
    go false h = ⊎_elim (λ e. rw e) (λ e. rw e) (components_relative t h)

-- `normalize_relative` goes by parts, from "/" for an absolute path
unfoldable pub root_of : List ℕ → List ℕ
root_of p = if starts_with (text "/") p then text "/" else []

pub relative_parts : (p : List ℕ) → normalize_relative p ≡ push_relative (parts p) (root_of p)
unfolding normalize_relative push_relative root_of
relative_parts p = go (starts_with (text "/") p) refl
  where
    go : (u : Bool) → starts_with (text "/") p ≡ u → push_relative (components p) [] ≡ push_relative (parts p) (if u then text "/" else [])
    go true h = rw (components_rooted p h)
    go false h = ⊎_elim (λ e. rw e) (λ e. rw e) (components_relative p h)

pub push_relative_append : (cs ds : List Component) (p : List ℕ) → push_relative (cs ++ ds) p ≡ push_relative ds (push_relative cs p)
unfolding push_relative
push_relative_append [] ds p = refl
push_relative_append (root_dir ∷ cs) ds p = push_relative_append cs ds (text "/")
push_relative_append (cur_dir ∷ cs) ds p = push_relative_append cs ds p
push_relative_append (parent_dir ∷ cs) ds p = push_relative_append cs ds (if pops p then parent p else push p (text ".."))
push_relative_append (normal c ∷ cs) ds p = push_relative_append cs ds (push p c)

-- `normalize_with` goes by parts
pub push_all_append : (cs ds : List Component) (p : List ℕ) → push_all (cs ++ ds) p ≡ and_path (push_all cs p) (λ q. push_all ds q)
unfolding push_all
push_all_append [] ds p = refl
push_all_append (c ∷ cs) ds p = go (limited (push_component c p)) (push_all_append cs ds)
  where
    go : (b : Built) → ((q : List ℕ) → push_all (cs ++ ds) q ≡ and_path (push_all cs q) (λ q. push_all ds q))
        → and_path b (λ q. push_all (cs ++ ds) q) ≡ and_path (and_path b (λ q. push_all cs q)) (λ q. push_all ds q)
    go (built q) ih = ih q
    go too_long ih = refl

-- an empty subpath, and an absolute one, are the answer
pub with_empty : (base sub : List ℕ) → length sub ≡ 0 → normalize_with base sub ≡ limited sub
with_empty base [] h = unfold normalize_with normalize_onto components leading flat_map component split starts_with equal in refl
with_empty base (b ∷ sub) h = absurd (let z : ⊥ = omega arith in z)

pub with_rooted : (base sub : List ℕ) → 0 < length sub → get_or sub 0 0 ≡ slash → normalize_with base sub ≡ limited sub
unfolding normalize_with normalize_onto
with_rooted base sub k e = rw (components_rooted sub (rooted sub k e))

-- any other subpath is pushed part by part
module _ (base sub : List ℕ) where
  onto_first : (c : ℕ) (s : List ℕ) (ps : List (List ℕ)) → normalize_onto base sub (leading ((c ∷ s) ∷ ps)) ≡ and_path (limited base) (λ p. push_all (flat_map component ((c ∷ s) ∷ ps)) p)
  unfolding leading flat_map component normalize_onto
  onto_first c s ps = go (equal (c ∷ s) (text ".")) (equal (c ∷ s) (text "..")) refl
    where
      none : equal (c ∷ s) [] ≡ false
      none = unfold equal in refl

      go : (u v : Bool) → equal (c ∷ s) (text ".") ≡ u
          → normalize_onto base sub ((if u then cur_dir ∷ [] else if equal (c ∷ s) [] || u then [] else if v then parent_dir ∷ [] else normal (c ∷ s) ∷ []) ++ flat_map component ps) ≡ and_path (limited base) (λ p. push_all ((if equal (c ∷ s) [] || u then [] else if v then parent_dir ∷ [] else normal (c ∷ s) ∷ []) ++ flat_map component ps) p)
      go true v h = rw none
      go false true h = rw none
      go false false h = rw none

  onto_parts : (c : ℕ) (ps : List (List ℕ)) → normalize_onto base sub (leading (to_first c ps)) ≡ and_path (limited base) (λ p. push_all (flat_map component (to_first c ps)) p)
  unfolding to_first
  onto_parts c [] = onto_first c [] []
  onto_parts c (s ∷ ps) = onto_first c s ps

pub with_parts : (base sub : List ℕ) → 0 < length sub → (get_or sub 0 0 ≡ slash → ⊥) → normalize_with base sub ≡ and_path (limited base) (λ p. push_all (parts sub) p)
unfolding normalize_with components parts split starts_with
with_parts base [] k n = absurd (let z : ⊥ = omega arith in z)
with_parts base (b ∷ s) k n = rw (ne_eqb slash b (λ e. n (sym e)), ne_eqb b slash n) (onto_parts base (b ∷ s) b (split slash s))

-- a parent is no longer than the path, "/" apart
pub parent_short : (n : ℕ) (p : List ℕ) → length p ≤ n → 1 ≤ n → length (parent p) ≤ n
unfolding parent or_root
parent_short n p h k = go (contains slash p) (before_last slash p) (last_inside slash p)
  where
    go : (u : Bool) (s : List ℕ) → length s ≤ length p → length (if u then or_root s else []) ≤ n
    go true [] l = k
    go true (b ∷ s) l = omega arith
    go false s l = omega arith

-- how long `push` makes a path, apart from the part pushed
unfoldable pub room : List ℕ → ℕ
room p = if equal p [] || ends_with (text "/") p then length p else suc (length p)

module _ (p : List ℕ) where
  pub room_low : length p ≤ room p
  unfolding room
  room_low = go (equal p [] || ends_with (text "/") p)
    where
      go : (u : Bool) → length p ≤ (if u then length p else suc (length p))
      go true = omega arith
      go false = omega arith

  pub room_high : room p ≤ suc (length p)
  unfolding room
  room_high = go (equal p [] || ends_with (text "/") p)
    where
      go : (u : Bool) → (if u then length p else suc (length p)) ≤ suc (length p)
      go true = omega arith
      go false = omega arith

  pub push_length : (c : List ℕ) → length (push p c) ≡ room p + length c
  unfolding room push
  push_length c = go (equal p [] || ends_with (text "/") p)
    where
      go : (u : Bool) → length (if u then p ++ c else p ++ text "/" ++ c) ≡ (if u then length p else suc (length p)) + length c
      go true = length-append p c
      go false = omega (arith, length-append (p ++ text "/") c, length-append p (text "/"))

  -- one step of `normalize_relative`
  pub relative_length : (s : List ℕ) → length (push_relative (component s) p) ≤ room p + length s
  unfolding component push_relative
  relative_length s = go (equal s [] || equal s (text ".")) (equal s (text "..")) refl
    where
      up : (u : Bool) → s ≡ text ".." → length (if u then parent p else push p (text "..")) ≤ room p + length s
      up true e = let k : length s ≡ 2 = ap length e in parent_short (room p + length s) p (omega (arith, room_low)) (omega arith)
      up false e = let k : length s ≡ 2 = ap length e in omega (arith, push_length (text ".."))

      go : (u v : Bool) → equal s (text "..") ≡ v → length (push_relative (if u then [] else if v then parent_dir ∷ [] else normal s ∷ []) p) ≤ room p + length s
      go true v e = omega (arith, room_low)
      go false true e = up (pops p) (equal_true s (text "..") e)
      go false false e = omega (arith, push_length s)

-- how long the parts between slashes are, with a slash between any two
unfoldable total : List (List ℕ) → ℕ
total [] = 0
total (s ∷ []) = length s
total (s ∷ t ∷ ps) = suc (length s + total (t ∷ ps))

split_total : (s : List ℕ) → total (split slash s) ≡ length s
unfolding split to_first total
split_total [] = refl
split_total (b ∷ s) = go (eqb b slash) (split slash s) (split_at slash s 0 (length (before slash s)) (omega arith)) (split_total s)
  where
    go : (u : Bool) (ps : List (List ℕ)) {q : List ℕ} {qs : List (List ℕ)} → ps ≡ q ∷ qs → total ps ≡ length s → total (if u then [] ∷ ps else to_first b ps) ≡ suc (length s)
    go u [] e h = absurd (let z : ◌≡◌ {A = ℕ} 0 1 = cc in let y : ⊥ = omega arith in y)
    go true (p ∷ ps) e h = omega arith
    go false (p ∷ []) e h = omega arith
    go false (p ∷ t ∷ ps) e h = omega arith

relative_all : (ps : List (List ℕ)) (p : List ℕ) → length (push_relative (flat_map component ps) p) ≤ room p + total ps
unfolding flat_map total
relative_all [] p = unfold push_relative in (omega (arith, room_low p))
relative_all (s ∷ []) p = rw (append-nil (component s)) (relative_length p s)
relative_all (s ∷ t ∷ ps) p =
    rw (push_relative_append (component s) (flat_map component (t ∷ ps)) p)
    (omega (arith, relative_all (t ∷ ps) (push_relative (component s) p), room_high (push_relative (component s) p), relative_length p s))

-- `normalize_relative` makes no path longer
pub normalize_relative_short : (p : List ℕ) → length (normalize_relative p) ≤ length p
unfolding parts
normalize_relative_short p = go (starts_with (text "/") p) p refl
  where
    go : (u : Bool) (p : List ℕ) → starts_with (text "/") p ≡ u → length (normalize_relative p) ≤ length p
    go false p h =
        let r : root_of p ≡ [] = unfold root_of in (rw h) in
        let z : room [] ≡ 0 = unfold room equal in refl in
        rw (relative_parts p, r) (omega (arith, relative_all (split slash p) [], split_total p))
    go true [] h = absurd (false≢true (sym (starts_empty slash [] refl) ∙ h))
    go true (c ∷ s) h =
        let r : root_of (c ∷ s) ≡ text "/" = unfold root_of in (rw h) in
        let k : eqb slash c ≡ true = sym (starts_with_lem slash (c ∷ s) (omega arith)) ∙ h in
        let z : room (text "/") ≡ 1 = unfold room equal ends_with in refl in
        rw (relative_parts (c ∷ s), r, parts_rooted c s k) (omega (arith, relative_all (split slash s) (text "/"), split_total s))

-- the climb: an absolute path that does not begin with "//" has one directory more above it than its parent
pub record Rooted (p : List ℕ) : Type 0 where
  pub starts : starts_with (text "/") p ≡ true
  pub single : get_or p 1 0 ≡ slash → ⊥

count_last : (c : ℕ) (s : List ℕ) → contains c s ≡ true → count c s ≡ suc (count c (before_last c s))
unfolding contains count before_last
count_last c [] h = absurd (false≢true h)
count_last c (b ∷ s) h = go (eqb b c) (contains c s) refl refl h (count_last c s)
  where
    go : (u v : Bool) → eqb b c ≡ u → contains c s ≡ v → u || v ≡ true → (contains c s ≡ true → count c s ≡ suc (count c (before_last c s))) → count c (b ∷ s) ≡ suc (count c (before_last c (b ∷ s)))
    go u true e f h ih = let k : count c s ≡ suc (count c (before_last c s)) = ih f in rw f (omega arith)
    go true false e f h ih = rw (f, e) (omega (arith, count_none c s f))
    go false false e f h ih = absurd (false≢true h)

starts_contains : (p : List ℕ) → starts_with (text "/") p ≡ true → contains slash p ≡ true
unfolding contains
starts_contains [] h = absurd (false≢true (sym (starts_empty slash [] refl) ∙ h))
starts_contains (b ∷ p) h =
    let k : eqb slash b ≡ true = sym (starts_with_lem slash (b ∷ p) (omega arith)) ∙ h in
    rw (eq-eqb b slash (sym (eqb-true slash b k)))

last_slash : (p : List ℕ) → contains slash p ≡ true → LastAt slash p (length (before_last slash p))
last_slash p h = last_found slash p (length (before_last slash p)) refl (go (eqb (length (before_last slash p)) (length p)) refl)
  where
    go : (u : Bool) → eqb (length (before_last slash p)) (length p) ≡ u → length (before_last slash p) < length p
    go true e = absurd (false≢true (sym (last_missing slash p (eqb-true _ _ e)) ∙ h))
    go false e = let n : length (before_last slash p) ≡ length p → ⊥ = eqb-false _ _ e in omega (arith, last_inside slash p)

not_equal : (s t : List ℕ) → (s ≡ t → ⊥) → equal s t ≡ false
not_equal s t n = go (equal s t) refl
  where
    go : (u : Bool) → equal s t ≡ u → u ≡ false
    go true e = absurd (n (equal_true s t e))
    go false e = refl

module _ (p : List ℕ) (g : Rooted p) where
  has : contains slash p ≡ true
  has = starts_contains p g.starts

  -- the parent is what stands before the last slash, or "/"
  parent_is : parent p ≡ or_root (before_last slash p)
  unfolding parent
  parent_is = rw has

  pub rooted_parent : Rooted (parent p)
  unfolding or_root
  rooted_parent = rw parent_is (go (before_last slash p) refl)
    where
      first : get_or p 0 0 ≡ slash
      first = let l = (last_slash p has).inside in sym (eqb-true slash (get_or p 0 0) (sym (starts_with_lem slash p (omega arith)) ∙ g.starts))

      second : (b : ℕ) (s : List ℕ) → b ∷ s ≡ take (suc (length s)) p → get_or (b ∷ s) 1 0 ≡ slash → ⊥
      second b [] f z = omega arith
      second b (x ∷ s) f z = g.single (sym (ap (λ q. get_or q 1 0) f ∙ get_or-take (suc (suc (length s))) p 1 0 (omega arith)) ∙ z)

      go : (q : List ℕ) → before_last slash p ≡ q → Rooted (or_root q)
      go [] e = record { starts = (unfold starts_with in refl); single = λ z. omega arith }
      go (b ∷ s) e =
          let f : b ∷ s ≡ take (suc (length s)) p = sym e ∙ (last_slash p has).front ∙ ap (λ q. take (length q) p) e in
          record {
            starts = rooted (b ∷ s) (omega arith) (ap (λ q. get_or q 0 0) f ∙ get_or-take (suc (length s)) p 0 0 (omega arith) ∙ first);
            single = second b s f;
          }

  deep : (p ≡ text "/" → ⊥) → depth p ≡ suc (depth (parent p))
  unfolding depth or_root
  deep n = rw (not_equal p (text "/") n, parent_is, count_last slash p has) (go (before_last slash p) refl)
    where
      go : (q : List ℕ) → before_last slash p ≡ q → suc (count slash q) ≡ suc (if equal (or_root q) (text "/") then 0 else count slash (or_root q))
      go [] e = unfold count equal in refl
      go (b ∷ s) e =
          let ne : equal (b ∷ s) (text "/") ≡ false = not_equal (b ∷ s) (text "/") (λ z. g.single (rw (ap length (e ∙ z)) at (last_slash p has).here)) in
          rw ne

  pub dirs_step : (p ≡ text "/" → ⊥) → dirs p ≡ p ∷ dirs (parent p)
  unfolding dirs climb
  dirs_step n = rw (deep n)

pub dirs_root : dirs (text "/") ≡ text "/" ∷ []
unfolding dirs depth climb equal
dirs_root = refl

-- a path of an accepted listing is such a path
no_slash : (p : List ℕ) → all is_component (split slash (drop 1 p)) ≡ true → get_or p 1 0 ≡ slash → ⊥
unfolding all split
no_slash [] h z = omega arith
no_slash (a ∷ []) h z = omega arith
no_slash (a ∷ b ∷ p) h z = let none : is_component [] ≡ false = unfold is_component equal in refl in false≢true (sym none ∙ (and_true _ _ (rw (eq-eqb b slash z) at h)).0)

pub path_rooted : (p : List ℕ) → is_path p ≡ true → Rooted p
unfolding is_path
path_rooted p h =
    let a = and_true (starts_with (text "/") p) _ (and_true _ _ (and_true _ _ h).0).0 in
    record { starts = a.0; single = go (equal p (text "/")) refl a.1 }
  where
    go : (u : Bool) → equal p (text "/") ≡ u → u || all is_component (split slash (drop 1 p)) ≡ true → get_or p 1 0 ≡ slash → ⊥
    go true e k z = let f : get_or p 1 0 ≡ 0 = ap (λ q. get_or q 1 0) (equal_true p (text "/") e) in omega arith
    go false e k z = no_slash p k z
