-- A path in a listing, by its last component: where the parent is a path, only the last component is left to test. Assumes nothing.
use Rattle.std.specs.Prelude.{◌≡◌, ℕ, zero, suc, ◌+◌, ◌-◌, ◌≤◌, ◌<◌, max, Bool, ◌&&◌, ◌||◌, [], ◌∷◌, ◌++◌, eqb, length, drop, take, get_or, ◌⊎◌}
use Rattle.std.proofs.Math.Path.{refl, sym, ap}
use Rattle.std.proofs.Common.{◌∙◌, true≢false, arith, eqb-true, eq-eqb, ne_eqb, length-append, length-drop, length-take-le, take-suc, take_all, add-one, inl, inr}
use Rattle.std.proofs.Math.Bool.{true, false, not}
use Rattle.std.proofs.lemmas.Bool.{false≢true}
use Rattle.std.proofs.Math.Seq.{split_at as cut_at}
use Rattle.definition.specs.Text.{Text, text, slash, equal, starts_with, contains, count, before_last, split, all, due, is_utf8, is_utf8_from, due_after}
use Rattle.laws.specs.TextLaws.{and_true, equal_refl, equal_true}
use Rattle.laws.specs.TextSteps.{equal_lengths, last_at}
use Rattle.definition.specs.Path.{parent, depth, name_of}
use Rattle.laws.specs.PathSteps.{LastAt, contains_append, count_append, count_none, all_append, split_last, split_none, utf8_append, parent_root, parent_some, name_whole, name_behind, last_inside, last_missing, last_found}
use Rattle.definition.specs.Listing.{is_component, is_path, is_manifest}
use Rattle.laws.specs.ListingSteps.{at_or_under}

-- a component that stands in a path
unfoldable pub is_name : Text → Bool
is_name c = is_component c && is_utf8 c && not (contains 0 c)

-- a component by its first bytes
pub component_empty : (c : Text) → length c ≡ 0 → is_component c ≡ false
unfolding is_component equal
component_empty [] h = refl
component_empty (x ∷ c) h = let z : ⊥ = omega arith in absurd z

pub component_plain : (c : Text) → 0 < length c → (get_or c 0 0 ≡ 46 → ⊥) → is_component c ≡ true
unfolding is_component equal
component_plain [] h e = let z : ⊥ = omega arith in absurd z
component_plain (x ∷ c) h e = rw (ne_eqb x 46 e)

pub component_dot : (c : Text) → length c ≡ 1 → get_or c 0 0 ≡ 46 → is_component c ≡ false
unfolding is_component equal
component_dot [] h e = let z : ⊥ = omega arith in absurd z
component_dot (x ∷ []) h e = rw (eq-eqb x 46 e)
component_dot (x ∷ y ∷ c) h e = let z : ⊥ = omega arith in absurd z

pub component_more : (c : Text) → 1 < length c → (get_or c 1 0 ≡ 46 → ⊥) → is_component c ≡ true
unfolding is_component equal
component_more [] h e = let z : ⊥ = omega arith in absurd z
component_more (x ∷ []) h e = let z : ⊥ = omega arith in absurd z
component_more (x ∷ y ∷ c) h e = rw (ne_eqb y 46 e) (go (eqb x 46))
  where
    go : (t : Bool) → not (t && false || t && false) ≡ true
    go true = refl
    go false = refl

pub component_dots : (c : Text) → 1 < length c → get_or c 0 0 ≡ 46 → get_or c 1 0 ≡ 46 → is_component c ≡ not (eqb (length c) 2)
unfolding is_component equal
component_dots [] h e f = let z : ⊥ = omega arith in absurd z
component_dots (x ∷ []) h e f = let z : ⊥ = omega arith in absurd z
component_dots (x ∷ y ∷ []) h e f = rw (eq-eqb x 46 e, eq-eqb y 46 f)
component_dots (x ∷ y ∷ z ∷ c) h e f = rw (eq-eqb x 46 e, eq-eqb y 46 f, ne_eqb (length (x ∷ y ∷ z ∷ c)) 2 (λ k. omega arith))

-- a path without "/", and one with two at its start
pub path_no_slash : (q : Text) → contains slash q ≡ false → is_path q ≡ false
unfolding is_path starts_with contains
path_no_slash [] h = refl
path_no_slash (x ∷ q) h = go (eqb x slash) refl
  where
    other : (x : ℕ) → eqb x slash ≡ false → eqb slash x ≡ false
    other x e = ne_eqb slash x (λ z. true≢false (sym (eq-eqb x slash (sym z)) ∙ e))

    go : (t : Bool) → eqb x slash ≡ t → is_path (x ∷ q) ≡ false
    go true e = absurd (true≢false (rw e at h))
    go false e = rw (other x e)

pub path_two_slashes : (q : Text) → 1 < length q → get_or q 1 0 ≡ slash → is_path q ≡ false
unfolding is_path equal split all is_component
path_two_slashes [] h e = let z : ⊥ = omega arith in absurd z
path_two_slashes (x ∷ []) h e = let z : ⊥ = omega arith in absurd z
path_two_slashes (x ∷ y ∷ q) h e = rw (eq-eqb y slash e) (go (starts_with (text "/") (x ∷ y ∷ q)) (eqb x slash))
  where
    go : (a b : Bool) → (a && (b && false || false) && is_utf8 (x ∷ y ∷ q) && not (contains 0 (x ∷ y ∷ q))) ≡ false
    go false b = refl
    go true true = refl
    go true false = refl

-- what a path is made of
record Parts (x : ℕ) (a : Text) : Type 0 where
  starts : eqb slash x ≡ true
  named : all is_component (split slash a) ≡ true
  utf8 : is_utf8 (x ∷ a) ≡ true
  nonzero : contains 0 (x ∷ a) ≡ false

not-true : (b : Bool) → not b ≡ true → b ≡ false
not-true true e = absurd (false≢true e)
not-true false e = refl

path_parts : (x : ℕ) (a : Text) → 0 < length a → is_path (x ∷ a) ≡ true → Parts x a
unfolding is_path starts_with
path_parts x a h e =
    let u : equal (x ∷ a) (text "/") ≡ false = equal_lengths (x ∷ a) (text "/") (λ z. omega arith) in
    let p : ((eqb slash x && true) && (equal (x ∷ a) (text "/") || all is_component (split slash a)) && is_utf8 (x ∷ a) ≡ true) × (not (contains 0 (x ∷ a)) ≡ true) = and_true _ _ e in
    let q : ((eqb slash x && true) && (equal (x ∷ a) (text "/") || all is_component (split slash a)) ≡ true) × (is_utf8 (x ∷ a) ≡ true) = and_true _ _ p.0 in
    let r : (eqb slash x && true ≡ true) × ((equal (x ∷ a) (text "/") || all is_component (split slash a)) ≡ true) = and_true _ _ q.0 in
    record { starts = (and_true _ _ r.0).0; named = rw u at r.1; utf8 = q.1; nonzero = not-true _ p.1 }

front_utf8 : (a b : Text) → is_utf8 a ≡ true → is_utf8 (a ++ slash ∷ b) ≡ is_utf8 b
unfolding is_utf8 is_utf8_from due_after
front_utf8 a b h = utf8_append a (slash ∷ b) (due 0 0 0) h

-- a path, "/" and a last component
join_path : (x : ℕ) (a b : Text) → 0 < length a → is_path (x ∷ a) ≡ true → contains slash b ≡ false → is_path (x ∷ (a ++ slash ∷ b)) ≡ is_name b
unfolding is_path is_name starts_with all
join_path x a b h e n =
    let p : Parts x a = path_parts x a h e in
    let u : equal (x ∷ (a ++ slash ∷ b)) (text "/") ≡ false = equal_lengths (x ∷ (a ++ slash ∷ b)) (text "/") (λ z. omega (arith, length-append a (slash ∷ b))) in
    let k : all is_component (split slash (a ++ slash ∷ b)) ≡ is_component b && true = ap (all is_component) (split_last slash a b n) ∙ all_append is_component (split slash a) (b ∷ []) ∙ rw p.named in
    let v : is_utf8 (x ∷ (a ++ slash ∷ b)) ≡ is_utf8 b = front_utf8 (x ∷ a) b p.utf8 in
    let w : contains 0 (x ∷ (a ++ slash ∷ b)) ≡ contains 0 b = contains_append 0 (x ∷ a) (slash ∷ b) ∙ rw p.nonzero (unfold contains in refl) in
    rw (p.starts, u, k, v, w) (ends (is_component b))
  where
    ends : (t : Bool) → (t && true) && is_utf8 b && not (contains 0 b) ≡ t && is_utf8 b && not (contains 0 b)
    ends true = refl
    ends false = refl

-- a path right under "/"
pub root_path : (b : Text) → 0 < length b → contains slash b ≡ false → is_path (slash ∷ b) ≡ is_name b
unfolding is_path is_name starts_with all
root_path b h n =
    let u : equal (slash ∷ b) (text "/") ≡ false = equal_lengths (slash ∷ b) (text "/") (λ z. omega arith) in
    let v : is_utf8 (slash ∷ b) ≡ is_utf8 b = front_utf8 [] b (unfold is_utf8 is_utf8_from in refl) in
    let w : contains 0 (slash ∷ b) ≡ contains 0 b = unfold contains in refl in
    rw (u, split_none slash b n, v, w) (ends (is_component b))
  where
    ends : (t : Bool) → (t && true) && is_utf8 b && not (contains 0 b) ≡ t && is_utf8 b && not (contains 0 b)
    ends true = refl
    ends false = refl

join_paths : (a b : Text) → 1 < length a → is_path a ≡ true → contains slash b ≡ false → is_path (a ++ slash ∷ b) ≡ is_name b
join_paths [] b h e n = let z : ⊥ = omega arith in absurd z
join_paths (x ∷ a) b h e n = join_path x a b (omega arith) e n

-- the text q with its last "/" at s: the parent is its first k bytes, and the name stands behind s
pub record Cut (q : Text) (s k : ℕ) : Type 0 where
  pub parent : parent q ≡ take k q
  pub positive : 0 < k
  pub proper : k < length q
  pub path : is_path (take k q) ≡ true → is_path q ≡ is_name (take (length q - (s + 1)) (drop (s + 1) q))
  pub slashes : count slash q ≡ suc (depth (take k q))

behind_all : (q : Text) (s : ℕ) → drop (suc s) q ≡ take (length q - (s + 1)) (drop (s + 1) q)
behind_all q s = sym (take_all (length q - (s + 1)) (drop (s + 1) q) (omega (arith, length-drop (s + 1) q)) ∙ ap (λ (n : ℕ). drop n q) (add-one s))

cut_text : (q : Text) (s : ℕ) → LastAt slash q s → q ≡ take s q ++ slash ∷ drop (suc s) q
cut_text q s h = cut_at q s 0 h.inside ∙ ap (λ x. take s q ++ x ∷ drop (suc s) q) h.here

cut_count : (q : Text) (s : ℕ) → LastAt slash q s → count slash q ≡ suc (count slash (take s q))
cut_count q s h =
    ap (count slash) (cut_text q s h) ∙ count_append slash (take s q) (slash ∷ drop (suc s) q) ∙ (unfold count in omega (arith, count_none slash (drop (suc s) q) h.none_after))

cut_root : (q : Text) (s : ℕ) → LastAt slash q s → s ≡ 0 → 1 < length q → Cut q s 1
unfolding depth
cut_root q s h z two = rw z (record {
  parent = parent_root q s h.inside h.there h.front z g;
  positive = omega arith;
  proper = two;
  path = λ _. ap is_path c ∙ root_path (drop 1 q) (omega (arith, length-drop 1 q)) (rw z at h.none_after) ∙ ap is_name (behind_all q 0);
  slashes = cut_count q s h ∙ rw (z, f, equal_refl (text "/")) (unfold count in refl);
})
  where
    g : get_or q 0 0 ≡ slash
    g = rw z at h.here

    c : q ≡ slash ∷ drop 1 q
    c = rw z at (cut_text q s h)

    f : take 1 q ≡ text "/"
    f = take-suc q 0 0 (omega arith) ∙ rw g

cut_deep : (q : Text) (s : ℕ) → LastAt slash q s → 1 < s → Cut q s s
unfolding depth
cut_deep q s h two = record {
  parent = rw d at (parent_some q s h.inside h.there h.front (λ z. omega arith));
  positive = omega arith;
  proper = h.inside;
  path = λ e. ap is_path (cut_text q s h) ∙ join_paths (take s q) (drop (suc s) q) (omega (arith, l)) e h.none_after ∙ ap is_name (behind_all q s);
  slashes = cut_count q s h ∙ rw (equal_lengths (take s q) (text "/") (λ z. omega (arith, l)));
}
  where
    d : s - 0 ≡ s
    d = omega arith

    l : length (take s q) ≡ s
    l = length-take-le s q (omega (arith, h.inside))

-- the last component is a text n without "/" where n stands at the end, at k, and a "/" or nothing stands before it
record Ends (p n : Text) (k : ℕ) : Type 0 where
  long : k + length n ≡ length p
  same : drop k p ≡ n
  edge : (k ≡ 0 → ⊥) → get_or p (k - 1) 0 ≡ slash

name_ends : (p n : Text) → name_of p ≡ n → Ends p n (length p - length n)
name_ends p n e = go (at_or_under (length p) (length (before_last slash p)))
  where
    r : ℕ
    r = length (before_last slash p)

    all_of : length p ≤ r → Ends p n (length p - length n)
    all_of h =
        let w : p ≡ n = sym (name_whole p (last_missing slash p (omega (arith, last_inside slash p)))) ∙ e in
        let l : length p ≡ length n = ap length w in
        let z : length p - length n ≡ 0 = omega arith in
        rw z (record { long = omega arith; same = w; edge = λ x. absurd (x refl) })

    some_of : r < length p → Ends p n (length p - length n)
    some_of h =
        let a : LastAt slash p r = last_found slash p r refl h in
        let w : n ≡ take (length p - (r + 1)) (drop (r + 1) p) = sym e ∙ name_behind p r h a.there a.front in
        let d : take (length p - (r + 1)) (drop (r + 1) p) ≡ drop (r + 1) p = take_all (length p - (r + 1)) (drop (r + 1) p) (omega (arith, length-drop (r + 1) p)) in
        let l : length n ≡ length p - (r + 1) = ap length (w ∙ d) ∙ length-drop (r + 1) p in
        let k : length p - length n ≡ r + 1 = omega arith in
        let b : r + 1 - 1 ≡ r = omega arith in
        rw k (record { long = omega arith; same = sym (w ∙ d); edge = λ x. rw b a.here })

    go : (length p ≤ r) ⊎ (r < length p) → Ends p n (length p - length n)
    go (inl h) = all_of h
    go (inr h) = some_of h

ends_name : (p n : Text) (k : ℕ) → contains slash n ≡ false → Ends p n k → name_of p ≡ n
ends_name p n k c e = go k e
  where
    go : (k : ℕ) → Ends p n k → name_of p ≡ n
    go zero e = name_whole p (ap (contains slash) e.same ∙ c) ∙ e.same
    go (suc k) e =
        let b : suc k - 1 ≡ k = omega arith in
        let f : get_or p k 0 ≡ slash = rw b at (e.edge (λ z. omega arith)) in
        let h : k < length p = omega (arith, e.long) in
        let t : (contains slash p ≡ true) × (before_last slash p ≡ take k p) = last_at slash p k h f (ap (contains slash) e.same ∙ c) in
        let d : drop (k + 1) p ≡ n = rw (add-one k) e.same in
        name_behind p k h t.0 t.1 ∙ take_all (length p - (k + 1)) (drop (k + 1) p) (omega (arith, length-drop (k + 1) p)) ∙ d

-- a manifest by its last bytes
refuted : (b : Bool) → (b ≡ true → ⊥) → b ≡ false
refuted true f = absurd (f refl)
refuted false f = refl

manifest_ends : (p : Text) → is_manifest p ≡ true → Ends p (text "package.json") (length p - 12)
unfolding is_manifest
manifest_ends p e = name_ends p (text "package.json") (equal_true _ _ e)

pub manifest_short : (p : Text) → length p < 12 → is_manifest p ≡ false
manifest_short p h = refuted _ (λ e. omega (arith, (manifest_ends p e).long))

module _ (p : Text) (k : ℕ) (h : 12 ≤ length p) (d : k ≡ length p - 12) where
  last_bytes : take (length p - k) (drop k p) ≡ drop k p
  last_bytes = take_all (length p - k) (drop k p) (omega (arith, length-drop k p))

  pub manifest_other : equal (take (length p - k) (drop k p)) (text "package.json") ≡ false → is_manifest p ≡ false
  manifest_other e =
      refuted _
      (λ f. true≢false (sym (equal_refl (text "package.json")) ∙ sym (ap (λ t. equal t (text "package.json")) (last_bytes ∙ ap (λ (n : ℕ). drop n p) d ∙ (manifest_ends p f).same)) ∙ e))

  module _ (e : equal (take (length p - k) (drop k p)) (text "package.json") ≡ true) where
    ending : ((k ≡ 0 → ⊥) → get_or p (k - 1) 0 ≡ slash) → is_manifest p ≡ true
    unfolding is_manifest
    ending f =
        let n : Ends p (text "package.json") k = record { long = omega arith; same = sym last_bytes ∙ equal_true _ _ e; edge = f } in
        ap (λ t. equal t (text "package.json")) (ends_name p (text "package.json") k (unfold contains in refl) n) ∙ equal_refl (text "package.json")

    pub manifest_whole : k ≡ 0 → is_manifest p ≡ true
    manifest_whole z = ending (λ x. absurd (x z))

    pub manifest_behind : (k ≡ 0 → ⊥) → is_manifest p ≡ eqb (get_or p (k - 1) 0) slash
    manifest_behind x = go (eqb (get_or p (k - 1) 0) slash) refl
      where
        go : (b : Bool) → eqb (get_or p (k - 1) 0) slash ≡ b → is_manifest p ≡ b
        go true y = ending (λ _. eqb-true _ _ y)
        go false y = refuted _ (λ f. true≢false (sym (eq-eqb _ _ (rw (← d) at ((manifest_ends p f).edge (λ z. x (d ∙ z))))) ∙ y))

-- the cut of a text of two bytes or more that does not begin with two "/"
pub cut_of : (q : Text) (s k : ℕ) → LastAt slash q s → (s ≡ 1 → ⊥) → k ≡ max s 1 → 1 < length q → Cut q s k
cut_of q s k h n e two = go (at_or_under 1 s)
  where
    go : (1 ≤ s) ⊎ (s < 1) → Cut q s k
    go (inl x) = let y : s ≡ 1 → ⊥ = n in let z : k ≡ s = omega arith in rw z (cut_deep q s h (omega arith))
    go (inr x) = let z : k ≡ 1 = omega arith in rw z (cut_root q s h (omega arith) two)
