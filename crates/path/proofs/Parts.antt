-- The loops over the parts between slashes: one part, and what is left behind the next slash.
use mathlib.Core.Path.{◌≡◌, refl, sym, ◌∙◌, ap}
use Prim.Native.Nat.{ℕ, suc, ◌+◌, ◌≤◌}
use native.Mathlib.Omega.{arith}
use mathlib.Core.Bool.{Bool, true, false, ◌||◌, cond, false≢true, true≢false}
use mathlib.Core.List.{List, [], ◌∷◌, ◌++◌, flat_map}
use lib.ListN.{length, drop, take, length-take}
use Rattle.std.specs.Slice.Iter as slice
use Rattle.std.specs.Fn.{CalledAt}
use Rattle.std.specs.Iterator.{Yields}
use Rattle.std.proofs.lemmas.Iterator.Splits.{YieldsList-from_slice_split}
use Rattle.std.proofs.lemmas.Iterator.Consumers.{YieldsList-turn, YieldsList-end}
use denote.Param.Members.{Mut}
use Rattle.std.specs.List.{slice_split, onto_first, list_any}
use Rattle.std.proofs.lemmas.List.{drop_more, drop_all}
use lib.Dec.{eqb, leb}
use borrow.Author.Tests.{leb-true, leb-false, eqb-true, eqb-false}
use Rattle.std.specs.Prelude.{if◌then◌else◌, Option, None, Some}
use Rattle.std.proofs.Common.{Bor}
use Rattle.definition.specs.Text.{text, slash, equal, starts_with, equal_ignoring_case, split, to_first, text_computes}
use Rattle.laws.specs.TextLaws.{equal_true}
use Rattle.definition.specs.Path.{Component, path_computes, parent_dir, normal, component, push, parent, pops, Built, built, too_long, and_path, limited, push_component, push_all, push_relative, normalize_with, normalize_relative, invalid_component, any_invalid, is_invalid_exports_target}
use Rattle.laws.specs.PathLaws.{limited_fits, component_up, parts, parts_rooted, push_all_append, push_relative_append, root_of, relative_parts, parent_short, room, room_high, relative_length, with_empty, with_rooted, with_parts, invalid_parts, any_invalid_append}
use Rattle.laws.specs.PathSteps.{starts_with_lem, starts_empty}
use Rattle.path.specs.Meaning.{path_at}
use Rattle.path.proofs.Steps.{at_fits, at_long}

-- `is_invalid_part`
pub invalid_up : (s : List ℕ) → equal s (text "..") ≡ true → any_invalid (component s) ≡ true
unfolding any_invalid invalid_component
invalid_up s h = rw (component_up s h)

or-false : (a : Bool) → a || false ≡ a
or-false true = refl
or-false false = refl

pub invalid_name : (s : List ℕ) → equal s (text "..") ≡ false
    → any_invalid (component s) ≡ equal_ignoring_case s (text "node_modules")
unfolding component any_invalid invalid_component
invalid_name s h = go (equal s []) (equal s (text ".")) refl refl
  where
    go : (u v : Bool) → equal s [] ≡ u → equal s (text ".") ≡ v
        → any_invalid (component s) ≡ equal_ignoring_case s (text "node_modules")
    go true v e f = rw (equal_true s [] e) (unfold text_computes in refl)
    go false true e f = rw (equal_true s (text ".") f) (unfold text_computes in refl)
    go false false e f = rw (e, f, h) (or-false (equal_ignoring_case s (text "node_modules")))

-- a `for` over the library's `split` goes over the definition's parts
pub cut_is : (c : ℕ) (s : List ℕ) → slice_split (λ b. eqb b c) s ≡ split c s
unfolding split to_first
cut_is c [] = refl
cut_is c (b ∷ s) = rw (cut_is c s) (go (eqb b c) (split c s))
  where
    first : (ps : List (List ℕ)) → onto_first b ps ≡ to_first b ps
    first [] = refl
    first (p ∷ ps) = refl

    go : (u : Bool) (ps : List (List ℕ)) → cond u ([] ∷ ps) (onto_first b ps) ≡ (if u then [] ∷ ps else to_first b ps)
    go true ps = refl
    go false ps = first ps

-- one turn of such a loop over the parts between slashes, and its end
module _ {F : Type 0} (s : _) (g : Mut F (Bor ℕ × Unit {0}) Bool) {f : F} (t : List ℕ) (rest : slice.split_rest s ≡ t)
    (open_yet : slice.split_done s ≡ false) (closure : slice.split_callee s ≡ f)
    (tests_slash : (x : ℕ) (b : Bool) (q : F) → CalledAt g f x b q → (q ≡ f) × (b ≡ eqb x slash))
    (xs : List (Bor (List ℕ))) (u : _) (so_far : Yields (slice.split_steps g) s xs u)
    (r : Option (Bor (List ℕ))) (v : _) (step : slice.split_steps g u r v) where
  pub turn_part : (x : Bor (List ℕ)) → r ≡ Some x
      → drop (length xs) (split slash t) ≡ x.now ∷ drop (length xs + 1) (split slash t)
  turn_part x e =
      let y = YieldsList-turn (YieldsList-from_slice_split g (λ b. eqb b slash) t rest open_yet closure tests_slash) xs
      u so_far r v x e step in
      rw (← cut_is slash t)
      (drop_more _ (length xs) x.now y.0
      ∙ ap (λ z. z ∷ drop (length xs + 1) (slice_split (λ b. eqb b slash) t)) (sym y.1))

  pub turn_end : r ≡ None → drop (length xs) (split slash t) ≡ []
  turn_end e =
      let y = YieldsList-end (YieldsList-from_slice_split g (λ b. eqb b slash) t rest open_yet closure tests_slash) xs u
      so_far r v e step in
      rw (← cut_is slash t) (drop_all (length xs) _ (omega arith))

-- one of the parts is invalid, or none is
abbrev pub invalid_part : List ℕ → Bool
invalid_part p = any_invalid (component p)

pub any_part : (s : List ℕ) → list_any invalid_part (slice_split (λ b. eqb b slash) s) ≡ is_invalid_exports_target s
unfolding parts any_invalid flat_map
any_part s = rw (cut_is slash s) (go (split slash s)) ∙ sym (invalid_parts s)
  where
    go : (ps : List (List ℕ)) → list_any invalid_part ps ≡ any_invalid (flat_map component ps)
    go [] = refl
    go (p ∷ ps) = ap (λ u. invalid_part p || u) (go ps) ∙ sym (any_invalid_append (component p) (flat_map component ps))

-- the components of the parts from the n-th on
abbrev pub parts_from : ℕ → List ℕ → List Component
parts_from n s = flat_map component (drop n (split slash s))

pub all_parts : (s : List ℕ) → parts_from 0 s ≡ parts s
unfolding parts
all_parts s = refl

module _ (s : List ℕ) (n : ℕ) where
  pub parts_next : (x : List ℕ) → drop n (split slash s) ≡ x ∷ drop (n + 1) (split slash s)
      → parts_from n s ≡ component x ++ parts_from (n + 1) s
  unfolding flat_map
  parts_next x e = rw e

  pub parts_end : drop n (split slash s) ≡ [] → parts_from n s ≡ []
  unfolding flat_map
  parts_end e = rw e

-- `push_component`
built_all : (b : Built) → and_path b (λ p. built p) ≡ b
built_all (built p) = refl
built_all too_long = refl

module _ (b : List ℕ) (n : ℕ) (s : List ℕ) where
  pub push_none : component s ≡ [] → path_at b n ≡ and_path (path_at b n) (λ p. push_all (component s) p)
  unfolding push_all
  push_none e = rw e (sym (built_all (path_at b n)))

  parent_fits : n ≤ 2048 → limited (parent (take n b)) ≡ built (parent (take n b))
  parent_fits h =
      limited_fits (parent (take n b)) (parent_short 2048 (take n b) (omega (arith, length-take n b)) (omega arith))

  pub push_up : equal s (text "..") ≡ true
      → and_path (path_at b n) (λ p. built (parent p)) ≡ and_path (path_at b n) (λ p. push_all (component s) p)
  unfolding push_all push_component
  push_up e = rw (component_up s e) (go (leb n 2048) refl)
    where
      go : (u : Bool) → leb n 2048 ≡ u
          → and_path (path_at b n) (λ p. built (parent p)) ≡ and_path (path_at b n) (λ p. push_all (parent_dir ∷ []) p)
      go true h = rw (at_fits b n (leb-true _ _ h), parent_fits (leb-true _ _ h))
      go false h = rw (at_long b n (leb-false _ _ h))

  pub push_name : component s ≡ normal s ∷ []
      → and_path (path_at b n) (λ p. limited (push p s)) ≡ and_path (path_at b n) (λ p. push_all (component s) p)
  unfolding push_all push_component
  push_name e = rw e (go (path_at b n))
    where
      go : (x : Built) → and_path x (λ p. limited (push p s)) ≡ and_path x (λ p. push_all (normal s ∷ []) p)
      go (built p) = sym (built_all (limited (push p s)))
      go too_long = refl

  -- as long as ".." pops it does not matter whether it would stay
  pub relative_same : (equal s (text "..") ≡ true → n ≤ 2048 → pops (take n b) ≡ true)
      → and_path (path_at b n) (λ p. push_all (component s) p)
      ≡ and_path (path_at b n) (λ p. limited (push_relative (component s) p))
  unfolding component push_all push_component push_relative
  relative_same f = go (leb n 2048) refl
    where
      part : (u v : Bool) → n ≤ 2048 → (v ≡ true → pops (take n b) ≡ true)
          → push_all (if u then [] else if v then parent_dir ∷ [] else normal s ∷ []) (take n b)
          ≡ limited (push_relative (if u then [] else if v then parent_dir ∷ [] else normal s ∷ []) (take n b))
      part true v h f = sym (limited_fits (take n b) (omega (arith, length-take n b)))
      part false true h f = rw (f refl) (built_all (limited (parent (take n b))))
      part false false h f = built_all (limited (push (take n b) s))

      go : (u : Bool) → leb n 2048 ≡ u
          → and_path (path_at b n) (λ p. push_all (component s) p)
          ≡ and_path (path_at b n) (λ p. limited (push_relative (component s) p))
      go true h = let l = leb-true n 2048 h in
          rw (at_fits b n l) (part (equal s [] || equal s (text ".")) (equal s (text "..")) l (λ e. f e l))
      go false h = rw (at_long b n (leb-false _ _ h))

  pub relative_stays : equal s (text "..") ≡ true → (n ≤ 2048 → pops (take n b) ≡ false)
      → and_path (path_at b n) (λ p. limited (push p s))
      ≡ and_path (path_at b n) (λ p. limited (push_relative (component s) p))
  unfolding push_relative
  relative_stays e f = rw (component_up s e, equal_true s (text "..") e) (go (leb n 2048) refl)
    where
      go : (u : Bool) → leb n 2048 ≡ u
          → and_path (path_at b n) (λ p. limited (push p (text "..")))
          ≡ and_path (path_at b n) (λ p. limited (push_relative (parent_dir ∷ []) p))
      go true h = let l = leb-true n 2048 h in rw (at_fits b n l, f l)
      go false h = rw (at_long b n (leb-false _ _ h))

-- `push_parts`: one part, and what is left
pub pushed_more : (x y : Built) (cs ds : List Component) → y ≡ and_path x (λ p. push_all cs p)
    → and_path y (λ p. push_all ds p) ≡ and_path x (λ p. push_all (cs ++ ds) p)
pushed_more (built p) y cs ds e = rw e (sym (push_all_append cs ds p))
pushed_more too_long y cs ds e = rw e

pub pushed_all : (x : Built) → x ≡ and_path x (λ p. push_all [] p)
unfolding push_all
pushed_all x = sym (built_all x)

-- `push_relative_parts`: from a path x₀, a path so far, and the parts from the n-th on left, for which there is room
pub size : List (List ℕ) → ℕ
size [] = 0
size (p ∷ ps) = suc (length p + size ps)

size_split : (c : ℕ) (s : List ℕ) → size (split c s) ≡ suc (length s)
unfolding split to_first size
size_split c [] = omega arith
size_split c (b ∷ s) = go (eqb b c) (split c s) (size_split c s)
  where
    go : (u : Bool) (ps : List (List ℕ)) → size ps ≡ suc (length s)
        → size (if u then [] ∷ ps else to_first b ps) ≡ suc (suc (length s))
    go true ps h = omega arith
    go false [] h = absurd (let z : ⊥ = omega arith in z)
    go false (p ∷ ps) h = omega arith

pub record Going (x₀ : List ℕ) (b : Built) (sub : List ℕ) (n : ℕ) : Type 0 where
  pub so : List ℕ
  pub is : b ≡ built so
  pub short : room so + size (drop n (split slash sub)) ≤ 2049
  pub rest : push_relative (parts_from n sub) so ≡ push_relative (parts sub) x₀

pub going_start : (x₀ : List ℕ) (b : Built) (sub : List ℕ) → b ≡ built x₀ → room x₀ + length sub ≤ 2048
    → Going x₀ b sub 0
going_start x₀ b sub e h = record {
  so = x₀;
  is = e;
  short = omega (arith, size_split slash sub);
  rest = ap (λ cs. push_relative cs x₀) (all_parts sub);
}

module _ (x₀ : List ℕ) (x : Built) (sub : List ℕ) (n : ℕ) (g : Going x₀ x sub n) where
  pub going_more : (y : Built) (part : List ℕ) → drop n (split slash sub) ≡ part ∷ drop (n + 1) (split slash sub)
      → y ≡ and_path x (λ q. limited (push_relative (component part) q)) → Going x₀ y sub (n + 1)
  unfolding size
  going_more y part e k =
      let next = push_relative (component part) g.so in
      let s : room g.so + suc (length part + size (drop (n + 1) (split slash sub))) ≤ 2049 = rw e at g.short in
      let l : length next ≤ room g.so + length part = relative_length g.so part in record {
        so = next;
        is = k ∙ rw g.is (limited_fits next (omega arith));
        short = omega (arith, room_high next);
        rest = sym (push_relative_append (component part) (parts_from (n + 1) sub) g.so)
            ∙ rw (← parts_next sub n part e) g.rest;
      }

  pub going_last : drop n (split slash sub) ≡ [] → x ≡ built (push_relative (parts sub) x₀)
  unfolding push_relative
  going_last h = g.is ∙ rw (← g.rest, parts_end sub n h)

-- `normalize_relative`: behind "/" stands what is left to push, and it has room
pub record Root (p : List ℕ) : Type 0 where
  pub short : length (root_of p) ≤ length p
  pub none : room (root_of p) ≡ length (root_of p)
  pub rest : push_relative (parts (drop (length (root_of p)) p)) (root_of p) ≡ normalize_relative p

pub root_of_lem : (p : List ℕ) → Root p
root_of_lem p = go (starts_with (text "/") p) p refl
  where
    go : (u : Bool) (p : List ℕ) → starts_with (text "/") p ≡ u → Root p
    go false p h =
        let r : root_of p ≡ [] = unfold root_of in (rw h) in
        record {
          short = rw r (omega arith);
          none = rw r (unfold room text_computes in refl);
          rest = rw r (sym (relative_parts p ∙ rw r));
        }
    go true [] h = absurd (false≢true (sym (starts_empty slash [] refl) ∙ h))
    go true (c ∷ s) h =
        let r : root_of (c ∷ s) ≡ text "/" = unfold root_of in (rw h) in
        let k : eqb slash c ≡ true = sym (starts_with_lem slash (c ∷ s) (omega arith)) ∙ h in
        record {
          short = rw r (omega arith);
          none = rw r (unfold room text_computes in refl);
          rest = rw r (sym (relative_parts (c ∷ s) ∙ rw (r, parts_rooted c s k)));
        }

-- `normalize_with`, of a subpath that is empty or absolute, and of any other
module _ (base sub : List ℕ) where
  pub with_whole : equal sub [] || starts_with (text "/") sub ≡ true → normalize_with base sub ≡ limited sub
  unfolding equal
  with_whole h = go sub h
    where
      go : (s : List ℕ) → equal s [] || starts_with (text "/") s ≡ true → normalize_with base s ≡ limited s
      go [] e = with_empty base [] refl
      go (b ∷ s) e =
          with_rooted base (b ∷ s) (omega arith)
          (sym (eqb-true slash b (sym (starts_with_lem slash (b ∷ s) (omega arith)) ∙ e)))

  pub with_relative : equal sub [] || starts_with (text "/") sub ≡ false
      → normalize_with base sub ≡ and_path (limited base) (λ p. push_all (parts sub) p)
  unfolding equal
  with_relative h = go sub h
    where
      go : (s : List ℕ) → equal s [] || starts_with (text "/") s ≡ false
          → normalize_with base s ≡ and_path (limited base) (λ p. push_all (parts s) p)
      go [] e = absurd (true≢false e)
      go (b ∷ s) e =
          with_parts base (b ∷ s) (omega arith)
          (λ z. eqb-false slash b (sym (starts_with_lem slash (b ∷ s) (omega arith)) ∙ e) (sym z))

-- `normalize_below`: "./" in front adds no part
dot_parts : (s : List ℕ) → parts (text "./" ++ s) ≡ parts s
unfolding path_computes parts
dot_parts s = refl

pub with_dot : (base sub : List ℕ)
    → normalize_with base (text "./" ++ sub) ≡ and_path (limited base) (λ p. push_all (parts sub) p)
with_dot base sub = rw (with_parts base (text "./" ++ sub) (omega arith) (λ e. omega arith), dot_parts sub)
