-- A path in a buffer of 2,048 bytes, by its length.
use mathlib.Core.Path.{◌≡◌, refl, sym, ◌∙◌, ap}
use Prim.Native.Nat.{ℕ, suc, max, ◌+◌, ◌-◌, ◌≤◌, ◌<◌}
use native.Mathlib.Omega.{arith}
use mathlib.Core.Bool.{Bool, true, false, not, ◌&&◌, ◌||◌}
use mathlib.Core.List.{List, [], ◌∷◌, ◌++◌, append-nil}
use lib.ListN.{length, drop, take, length-append, length-take, drop_of_length-le}
use lib.Seq.{length-take-le, take-take}
use lib.Dec.{eqb, leb, ltb}
use borrow.Author.Tests.{le-leb, lt-leb, le-ltb, lt-ltb, leb-true, leb-false, ne_eqb}
use Rattle.std.specs.Prelude.{if◌then◌else◌, Option, None, Some, MatchOption}
use Rattle.std.proofs.Common.{inl, inr, Bor}
use Rattle.std.proofs.lemmas.Slice.{take-put_mid}
use borrow.Rule.Slice.PartMut.{put_mid}
use Rattle.std.specs.Slice.{IsGetRangeResult}
use Rattle.definition.specs.Text.{text, equal, ends_with, slash, contains, before_last, overwrite}
use Rattle.definition.specs.Path.{Built, built, too_long, and_path, limited, push, parent, pops, name_of, add_extension, add_name_and_extension}
use Rattle.laws.specs.TextLaws.{overwrite_upto}
use Rattle.std.proofs.lemmas.List.{take_all}
use Rattle.laws.specs.PathLaws.{limited_fits, limited_long, then_append}
use Rattle.laws.specs.PathSteps.{parent_none, parent_root, parent_some, name_behind, name_whole, last_inside, last_missing, last_found}
use Rattle.path.specs.Meaning.{path_at, is_too_long}

module _ (b : List ℕ) (n : ℕ) where
  pub at_fits : n ≤ 2048 → path_at b n ≡ built (take n b)
  unfolding path_at
  at_fits h = rw (le-leb _ _ h)

  pub at_long : 2048 < n → path_at b n ≡ too_long
  unfolding path_at
  at_long h = rw (lt-leb _ _ h)

-- `put`: what was over-long, what gets over-long, and what fits
module _ (b : List ℕ) (n : ℕ) (t : List ℕ) where
  pub put_over : 2048 < n → path_at b n ≡ and_path (path_at b n) (λ p. add_extension p t)
  put_over h = rw (at_long b n h)

  module _ (w : length b ≡ 2048) (h : n ≤ 2048) where
    size_of : length (take n b) ≡ n
    size_of = length-take-le n b (omega arith)

    pub put_long : 2048 < n + length t → path_at b 2049 ≡ and_path (path_at b n) (λ p. add_extension p t)
    unfolding add_extension
    put_long g =
        let k = size_of in
        rw (at_fits b n h, limited_long (take n b ++ t) (omega (arith, length-append (take n b) t)))
        (at_long b 2049 (omega arith))

    written : (l : List ℕ) → n + length t ≤ 2048 → take (n + length t) l ≡ take n b ++ t
        → path_at l (n + length t) ≡ and_path (path_at b n) (λ p. add_extension p t)
    unfolding add_extension
    written l g e =
        let k = size_of in
        rw (
          at_fits b n h,
          limited_fits (take n b ++ t) (omega (arith, length-append (take n b) t)),
          at_fits l (n + length t) g,
        ) (ap built e)

    pub put_fits : n + length t ≤ 2048
        → path_at (overwrite n t b) (n + length t) ≡ and_path (path_at b n) (λ p. add_extension p t)
    put_fits g = written (overwrite n t b) g (overwrite_upto n t b (omega arith))

    pub put_part : (s : List ℕ) → s ≡ t → n + length t ≤ 2048
        → path_at (put_mid n (n + length t - n) b s) (n + length t) ≡ and_path (path_at b n) (λ p. add_extension p t)
    put_part s e g =
        rw e (written (put_mid n (n + length t - n) b t) g
        (take-put_mid n (n + length t - n) b t (n + length t) refl (omega arith)))

-- a text over one of its length
pub overwrite_whole : (s d : List ℕ) → length d ≡ length s → overwrite 0 s d ≡ s
unfolding overwrite
overwrite_whole s d e =
    let text : take (length d - 0) s ≡ s = take_all (length d - 0) s (omega arith) in
    let rest : drop (0 + length s) d ≡ [] = drop_of_length-le d (omega arith) in
    rw (text, rest) (append-nil s)

-- `is_empty`
pub empty_is : {r u : Bool} (s : List ℕ) → r ≡ eqb (length s) 0 → r ≡ u → equal s [] ≡ u
unfolding equal
empty_is [] e h = sym e ∙ h
empty_is (b ∷ s) e h = sym (ne_eqb (suc (length s)) 0 (λ z. omega arith)) ∙ sym e ∙ h

-- the text of a path that is not over-long
module _ (b : List ℕ) (n : ℕ) (t : List ℕ) (e : path_at b n ≡ built t) where
  pub text_within : n ≤ 2048
  text_within = go (leb n 2048) refl
    where
      go : (u : Bool) → leb n 2048 ≡ u → n ≤ 2048
      go true h = leb-true _ _ h
      go false h = let f : too_long ≡ built t = sym (at_long b n (leb-false _ _ h)) ∙ e in cc

  pub text_is : take n b ≡ t
  text_is = let f : built (take n b) ≡ built t = sym (at_fits b n text_within) ∙ e in cc

  pub text_short : length t ≤ 2048
  text_short = let w = text_within in omega (arith, length-take n b, ap length text_is)

  -- `slash`: at an empty path, behind a slash, and behind another byte
  pub slash_there : equal t [] || ends_with (text "/") t ≡ true
      → path_at b n ≡ and_path (path_at b n) (λ p. limited (push p []))
  unfolding push
  slash_there h = rw (e, h, append-nil) (sym (limited_fits t text_short))

  pub slash_put : equal t [] || ends_with (text "/") t ≡ false
      → and_path (path_at b n) (λ p. add_extension p (text "/")) ≡ and_path (path_at b n) (λ p. limited (push p []))
  unfolding push add_extension
  slash_put h = rw (e, h, append-nil)

  -- `up`
  pub up_parent : (r : ℕ) → (r ≤ length t) × (parent t ≡ take r t)
      → path_at b r ≡ and_path (path_at b n) (λ p. built (parent p))
  up_parent r h =
      let w = text_within in
      let l : r ≤ n = omega (arith, length-take n b, ap length text_is) in
      rw (e, h.1, ← text_is, take-take r n b l) (at_fits b r (omega arith))

-- `join`: a part behind the slash
pub push_put : (x : Built) (t : List ℕ)
    → and_path (and_path x (λ p. limited (push p []))) (λ p. add_extension p t) ≡ and_path x (λ p. limited (push p t))
unfolding push
push_put x t = then_append x (λ p. push p []) t ∙ by x
  where
    behind : (p : List ℕ) → push p [] ++ t ≡ push p t
    behind p = go (equal p [] || ends_with (text "/") p)
      where
        go : (u : Bool) → (if u then p ++ [] else p ++ text "/" ++ []) ++ t ≡ (if u then p ++ t else p ++ text "/" ++ t)
        go true = rw append-nil
        go false = rw append-nil

    by : (x : Built) → and_path x (λ p. limited (push p [] ++ t)) ≡ and_path x (λ p. limited (push p t))
    by (built p) = ap limited (behind p)
    by too_long = refl

-- `add_name_and_extension`: three texts, one after the other
pub put_three : (b : Built) (name e : List ℕ)
    → and_path (and_path (and_path b (λ p. add_extension p (text "/"))) (λ p. add_extension p name))
    (λ p. add_extension p e) ≡ and_path b (λ p. add_name_and_extension p name e)
unfolding add_extension add_name_and_extension
put_three b name e =
    ap (λ x. and_path x (λ p. limited (p ++ e))) (then_append b (λ p. p ++ text "/") name)
    ∙ then_append b (λ p. p ++ text "/" ++ name) e

pub over_is : (b : List ℕ) (n : ℕ) → ltb 2048 n ≡ is_too_long (path_at b n)
over_is b n = go (leb n 2048) refl
  where
    go : (u : Bool) → leb n 2048 ≡ u → ltb 2048 n ≡ is_too_long (path_at b n)
    go true h = rw (at_fits b n (leb-true _ _ h)) (le-ltb 2048 n (leb-true n 2048 h))
    go false h = rw (at_long b n (leb-false _ _ h)) (lt-ltb 2048 n (leb-false n 2048 h))

-- `parent_len` and `name_of`, by the place k of the last slash
module _ (p : List ℕ) (k : ℕ) (e : k ≡ length (before_last slash p)) where
  missing : length p ≤ k → contains slash p ≡ false
  missing h = last_missing slash p (omega (arith, last_inside slash p))

  pub parent_nothing : length p ≤ k → parent p ≡ take 0 p
  parent_nothing h = parent_none p (missing h)

  pub name_all : length p ≤ k → name_of p ≡ p
  name_all h = name_whole p (missing h)

  module _ (h : k < length p) where
    parent_slash : k ≡ 0 → parent p ≡ take 1 p
    parent_slash z = let l = last_found slash p k e h in parent_root p k h l.there l.front z (rw z at l.here)

    parent_front : (k ≡ 0 → ⊥) → parent p ≡ take k p
    parent_front z =
        let l = last_found slash p k e h in
        let d : k - 0 ≡ k = omega arith in
        parent_some p k h l.there l.front z ∙ rw d

    pub parent_found : (m : ℕ) → m ≡ max k 1 → (m ≤ length p) × (parent p ≡ take m p)
    parent_found m e = go (leb k 0) refl
      where
        go : (u : Bool) → leb k 0 ≡ u → (m ≤ length p) × (parent p ≡ take m p)
        go true z =
            let n : k ≤ 0 = leb-true _ _ z in
            let f : m ≡ 1 = omega arith in
            (omega arith, rw f (parent_slash (omega arith)))
        go false z =
            let n : 0 < k = leb-false _ _ z in
            let f : m ≡ k = omega arith in
            (omega arith, rw f (parent_front (λ i. omega arith)))

    pub name_rest : name_of p ≡ take (length p - (k + 1)) (drop (k + 1) p)
    name_rest = let l = last_found slash p k e h in name_behind p k h l.there l.front

-- `as_slice`: the part up to n is there exactly where the path is not over-long
pub text_or_long : (b : List ℕ) (n : ℕ) (r : Option (Bor (List ℕ))) → length b ≡ 2048 → IsGetRangeResult b 0 n r
    → MatchOption r (path_at b n ≡ too_long) (λ t. path_at b n ≡ built t.now)
text_or_long b n None w (inl h, g) = absurd (let z : ⊥ = omega arith in z)
text_or_long b n None w (inr h, g) = at_long b n (omega arith)
text_or_long b n (Some t) w (p, g) =
    let d : n - 0 ≡ n = omega arith in
    at_fits b n (omega arith) ∙ ap built (sym (rw d at p.2))

-- `pops`: a path that is not over-long has a component to pop, unless it is empty or the root
pub pops_is : (r : Option (Bor (List ℕ))) (b : Built) (u : Bool) → MatchOption r (b ≡ too_long) (λ t. b ≡ built t.now)
    → MatchOption r (u ≡ false) (λ t. u ≡ (not (eqb (length t.now) 0) && not (equal t.now (text "/")))) → (p : List ℕ)
    → b ≡ built p → u ≡ pops p
unfolding pops
pops_is None b u f g p e = cc
pops_is (Some t) b u f g p e =
    let h : t.now ≡ p = cc in
    g ∙ rw (h, ← empty_is p refl refl) (neither (equal p []) (equal p (text "/")))
  where
    neither : (x y : Bool) → (not x && not y) ≡ not (x || y)
    neither true y = refl
    neither false y = refl
