-- HOW LONG THE TEXTS ARE: no path that is built has over 2,048 bytes, and the texts of what exports give, a path with query and fragment or
-- an error, have at most 6,157 together.
use Rattle.std.specs.Prelude.{◌≡◌, refl, ℕ, zero, suc, ◌+◌, ◌-◌, ◌*◌, ◌≤◌, Bool, true, false, not, ◌&&◌, ◌||◌, length, drop, take, eqb, leb, ltb, if◌then◌else◌}
use Rattle.std.proofs.Common.{arith, length-append, length-take, length-drop, leb-true, ltb-false}
use mathlib.Core.List.{List, [], ◌∷◌, ◌++◌, flat_map}
use Rattle.std.proofs.Math.Option.{Option, none, some}
use Rattle.definition.specs.Text.{text, star, hash, question, equal, starts_with, ends_with, contains, contains_text, before, from, after, utf8}
use Rattle.laws.specs.TextSteps.{before_inside}
use Rattle.definition.specs.Path.{Component, root_dir, cur_dir, parent_dir, normal, components, push, parent, Built, built, too_long, and_path, limited, push_component, push_all, normalize_onto, normalize_with, normalize_relative, is_invalid_exports_target, add_extension, add_name_and_extension, manifest_of, depth, climb, dirs}
use Rattle.laws.specs.PathLaws.{parent_short, normalize_relative_short}
use Rattle.definition.specs.Specifier.{Specifier, parsed, empty_specifier, before_fragment, body, unescape, path_before, or_empty, parse_specifier, package_name, package_subpath, dot_subpath, strip_package_name, normalized_specifier, climbing}
use Rattle.definition.specs.Json.{Json}
use Rattle.definition.specs.Exports.{Failure, failure_texts, Context, Outcome, found, nothing, failed, overlong, or_old, with_query_fragment, star_match, is_subpath_key, pattern_match, Target, target, directory_error, Request, outcome_of, invalid_target, target_path, string_target, or_dot, path_not_exported, PACKAGE_EXPORTS_RESOLVE}
use Rattle.definition.specs.Called.{joined}
use Rattle.laws.specs.ExportsLaws.{Strings, Kept, Keeps, exports_kept}
use Rattle.laws.specs.StringBound.{Small}

-- Paths -----------------------------------------------------------------------------------------------------------------------------

abbrev pub Fit : List ℕ → Type 0
Fit p = length p ≤ 2048

abbrev pub BuiltFits : Built → Type 0
BuiltFits (built p) = Fit p
BuiltFits too_long = Unit {0}

pub limited_fits : (p : List ℕ) → BuiltFits (limited p)
unfolding limited
limited_fits p = go (leb (length p) 2048) refl
  where
    go : (u : Bool) → leb (length p) 2048 ≡ u → BuiltFits (if u then built p else too_long)
    go true h = leb-true _ _ h
    go false h = tt

and_path_fits : (b : Built) (k : List ℕ → Built) → BuiltFits b → ((q : List ℕ) → Fit q → BuiltFits (k q)) → BuiltFits (and_path b k)
and_path_fits (built p) k h f = f p h
and_path_fits too_long k h f = tt

push_all_fits : (cs : List Component) (p : List ℕ) → Fit p → BuiltFits (push_all cs p)
unfolding push_all
push_all_fits [] p h = h
push_all_fits (c ∷ cs) p h = and_path_fits (limited (push_component c p)) (λ q. push_all cs q) (limited_fits (push_component c p)) (λ q g. push_all_fits cs q g)

pub normalize_with_fits : (base sub : List ℕ) → BuiltFits (normalize_with base sub)
unfolding normalize_with
normalize_with_fits base sub = onto (components sub)
  where
    onto : (cs : List Component) → BuiltFits (normalize_onto base sub cs)
    onto [] = unfold normalize_onto in (limited_fits sub)
    onto (root_dir ∷ cs) = unfold normalize_onto in (limited_fits sub)
    onto (cur_dir ∷ cs) = unfold normalize_onto in (and_path_fits (limited base) (λ p. push_all cs p) (limited_fits base) (λ p g. push_all_fits cs p g))
    onto (parent_dir ∷ cs) = unfold normalize_onto in (and_path_fits (limited base) (λ p. push_all (parent_dir ∷ cs) p) (limited_fits base) (λ p g. push_all_fits (parent_dir ∷ cs) p g))
    onto (normal c ∷ cs) = unfold normalize_onto in (and_path_fits (limited base) (λ p. push_all (normal c ∷ cs) p) (limited_fits base) (λ p g. push_all_fits (normal c ∷ cs) p g))

pub add_extension_fits : (p e : List ℕ) → BuiltFits (add_extension p e)
unfolding add_extension
add_extension_fits p e = limited_fits _

pub add_name_and_extension_fits : (p n e : List ℕ) → BuiltFits (add_name_and_extension p n e)
unfolding add_name_and_extension
add_name_and_extension_fits p n e = limited_fits _

-- Specifiers ------------------------------------------------------------------------------------------------------------------------

if_short : (n : ℕ) (u : Bool) (a b : List ℕ) → length a ≤ n → length b ≤ n → length (if u then a else b) ≤ n
if_short n true a b h k = h
if_short n false a b h k = k

utf8_short : (c : ℕ) → length (utf8 c) ≤ 4
unfolding utf8
utf8_short c =
    if_short 4 (ltb c 128) _ _ (omega arith) (if_short 4 (ltb c 2048) _ _ (omega arith) (if_short 4 (ltb c 65536) _ _ (omega arith) (omega arith)))

widened_short : (s : List ℕ) → length (flat_map utf8 s) ≤ 4 * length s
unfolding flat_map
widened_short [] = omega arith
widened_short (c ∷ s) = omega (arith, widened_short s, utf8_short c, length-append (utf8 c) (flat_map utf8 s))

before_fragment_short : (p : ℕ) (s : List ℕ) → length (before_fragment p s) ≤ length s
unfolding before_fragment
before_fragment_short p [] = omega arith
before_fragment_short p (b ∷ s) =
    let h : length (before_fragment b s) ≤ length s = before_fragment_short b s in
    if_short (suc (length s)) (eqb b hash && not (eqb p 0)) [] (b ∷ before_fragment b s) (omega arith) (omega arith)

pub body_short : (s : List ℕ) → length (body s) ≤ length s
unfolding body
body_short [] = omega arith
body_short (b ∷ s) = omega (arith, before_fragment_short b s)

pub unescape_short : (s : List ℕ) → length (unescape s) ≤ length s
unfolding unescape
unescape_short [] = omega arith
unescape_short (b ∷ s) =
    let h : length (unescape s) ≤ length s = unescape_short s in
    let g = if_short 1 (eqb b 0 && starts_with (text "#") s) [] (b ∷ []) (omega arith) (omega arith) in
    omega (arith, length-append (if eqb b 0 && starts_with (text "#") s then [] else b ∷ []) (unescape s))

path_short : (s : List ℕ) → length (path_before s) ≤ 4 * length s
unfolding path_before
path_short s =
    let b : length (before question s) ≤ length s = before_inside question s in
    if_short (4 * length s) (contains_text (0 ∷ hash ∷ []) s) _ _
    (omega (arith, widened_short (unescape (before question s)), unescape_short (before question s)))
    (omega arith)

-- what a target of at most 1,024 bytes is parsed into
abbrev SpecifierFits : Specifier → Type 0
SpecifierFits empty_specifier = Unit {0}
SpecifierFits (parsed p q f) = (length p ≤ 4096) × ((length q ≤ 1024) × (length f ≤ 1024))

or_empty_fits : (p q f : List ℕ) → length p ≤ 4096 → length q ≤ 1024 → length f ≤ 1024 → SpecifierFits (or_empty p q f)
unfolding or_empty
or_empty_fits [] q f x y z = tt
or_empty_fits (b ∷ p) q f x y z = (x, (y, z))

parse_fits : (s : List ℕ) → Small s → SpecifierFits (parse_specifier s)
unfolding parse_specifier from
parse_fits s h =
    let l : length (body s) ≤ length s = body_short s in
    or_empty_fits (path_before (body s)) (drop (length (before question (body s))) (body s)) (drop (length (body s)) s)
    (omega (arith, path_short (body s)))
    (omega (arith, length-drop (length (before question (body s))) (body s)))
    (omega (arith, length-drop (length (body s)) s))

-- Exports ---------------------------------------------------------------------------------------------------------------------------

-- the texts of an error have at most 6,157 bytes: a target of 4,096, a key of 1,024 and a manifest's path of 1,037
abbrev pub FailureFits : Failure → Type 0
FailureFits f = length (joined (failure_texts f)) ≤ 6157

abbrev pub OutcomeFits : Outcome → Type 0
OutcomeFits (found p) = Fit p
OutcomeFits nothing = Unit {0}
OutcomeFits (failed f) = FailureFits f
OutcomeFits overlong = Unit {0}

abbrev pub ContextFits : Context → Type 0
ContextFits c = (length c.query ≤ 1024) × (length c.fragment ≤ 1024)

record RequestFits (q : Request) : Type 0 where
  url : length q.package_url ≤ 1024
  key : length q.key ≤ 1024
  matched : length (or_dot q.matched) ≤ 1024

-- the texts of each error
pub fits_1 : (t : List ℕ) → length t ≤ 6157 → length (joined (t ∷ [])) ≤ 6157
unfolding joined
fits_1 t h = omega (arith, length-append t [])

pub fits_2 : (s t : List ℕ) → length s + length t ≤ 6157 → length (joined (s ∷ t ∷ [])) ≤ 6157
unfolding joined
fits_2 s t h = omega (arith, length-append s (t ++ []), length-append t [])

pub fits_3 : (r s t : List ℕ) → length r + length s + length t ≤ 6157 → length (joined (r ∷ s ∷ t ∷ [])) ≤ 6157
unfolding joined
fits_3 r s t h = omega (arith, length-append r (s ++ (t ++ [])), length-append s (t ++ []), length-append t [])

pub manifest_short : (d : List ℕ) → length (manifest_of d) ≤ length d + 13
unfolding manifest_of push
manifest_short d =
    if_short (length d + 13) (equal d [] || ends_with (text "/") d) _ _
    (omega (arith, length-append d (text "package.json")))
    (omega (arith, length-append d (text "/"), length-append (d ++ text "/") (text "package.json")))

invalid_fits : (q : Request) (t : List ℕ) → RequestFits q → length t ≤ 4096 → OutcomeFits (invalid_target q t)
unfolding invalid_target failure_texts
invalid_fits q t r h = fits_3 t q.key (manifest_of q.package_url) (let u = r.url in let k = r.key in omega (arith, manifest_short q.package_url))

if_outcome : (u : Bool) (a b : Outcome) → (u ≡ true → OutcomeFits a) → (u ≡ false → OutcomeFits b) → OutcomeFits (if u then a else b)
if_outcome true a b h k = h refl
if_outcome false a b h k = k refl

outcome_of_fits : (b : Built) → BuiltFits b → OutcomeFits (outcome_of b)
unfolding outcome_of
outcome_of_fits (built p) h = h
outcome_of_fits too_long h = tt

target_path_fits : (q : Request) (t : Target) → RequestFits q → OutcomeFits (target_path q t)
unfolding target_path failure_texts
target_path_fits q directory_error r = fits_1 (manifest_of q.package_url) (let u = r.url in omega (arith, manifest_short q.package_url))
target_path_fits q (target t) r =
    if_outcome (ltb 2048 (length t)) _ _ (λ _. tt) (λ e.
    if_outcome (is_invalid_exports_target t) _ _ (λ _. invalid_fits q t r (let l = ltb-false 2048 (length t) e in omega arith)) (λ _.
    outcome_of_fits (normalize_with q.package_url t) (normalize_with_fits q.package_url t)))

or_old_short : (new old : List ℕ) → length new ≤ 1024 → length old ≤ 1024 → length (or_old new old) ≤ 1024
unfolding or_old
or_old_short [] old h k = k
or_old_short (b ∷ new) old h k = h

string_target_fits : (q : Request) (p : Specifier) (s : List ℕ) (c : Context) → RequestFits q → SpecifierFits p → Small s → ContextFits c → Kept ContextFits OutcomeFits (string_target q p s c)
unfolding string_target with_query_fragment failure_texts
string_target_fits q empty_specifier s c r x h g = record { context = g; outcome = fits_1 s (omega arith) }
string_target_fits q (parsed p qu fr) s c r x h g = record {
  context = (or_old_short qu c.query x.1.0 g.0, or_old_short fr c.fragment x.1.1 g.1);
  outcome = if_outcome (starts_with (text "./") p) _ _ (λ _. target_path_fits q _ r) (λ _. invalid_fits q p r x.0);
}

keeps_fits : Keeps Small ContextFits RequestFits OutcomeFits
unfolding path_not_exported failure_texts
keeps_fits = record {
  strings = λ q s c r x g. string_target_fits q (parse_specifier s) s c r (parse_fits s x) x g;
  empty_array = λ q r. fits_2 (or_dot q.matched) q.package_url (let u = r.url in let m = r.matched in omega arith);
  nowhere = tt;
}

-- the part matched is no longer than the match key
record PartFits (n : ℕ) (o : Option (List ℕ)) : Type 0 where
  short : length (or_dot o) ≤ n

no_part : (n : ℕ) → 1 ≤ n → PartFits n none
unfolding or_dot
no_part n h = record { short = omega arith }

some_part : (n : ℕ) (m : List ℕ) → length m ≤ n → PartFits n (some m)
unfolding or_dot
some_part n m h = record { short = h }

if_part : (n : ℕ) (u : Bool) {a b : Option (List ℕ)} → PartFits n a → PartFits n b → PartFits n (if u then a else b)
if_part n true x y = x
if_part n false x y = y

pub match_short : (n : ℕ) (mk k : List ℕ) → length mk ≤ n → 1 ≤ n → length (or_dot (pattern_match mk k)) ≤ n
unfolding pattern_match star_match
match_short n mk k h o =
    let base = before star k in
    let trailer = after star k in
    (if_part n (not (is_subpath_key k)) (no_part n o)
    (if_part n (contains star k)
    (if_part n (starts_with base mk && not (contains star trailer) && (equal trailer [] || (leb (length k) (length mk) && ends_with trailer mk)))
    (some_part n (take (length mk - length base - length trailer) (drop (length base) mk))
    (omega (arith, length-take (length mk - length base - length trailer) (drop (length base) mk), length-drop (length base) mk))) (no_part n o))
    (if_part n (ends_with (text "/") k && starts_with k mk) (some_part n (drop (length k) mk) (omega (arith, length-drop (length k) mk))) (no_part n o)))
    ).short

pub exports_fit : (url : List ℕ) (conds : List (List ℕ)) (subpath : List ℕ) (j : Json) (c : Context) → length url ≤ 1024 → length subpath ≤ 1024 → Strings Small j → ContextFits c
    → Kept ContextFits OutcomeFits (PACKAGE_EXPORTS_RESOLVE url conds subpath j c)
unfolding failure_texts or_dot
exports_fit url conds sub j c u s x g =
    exports_kept keeps_fits url conds sub
    (record { url = u; key = omega arith; matched = omega arith })
    (λ k h. record { url = u; key = h; matched = omega arith })
    (λ k h. record { url = u; key = h; matched = match_short 1024 sub k s (omega arith) })
    (fits_1 (manifest_of url) (omega (arith, manifest_short url)))
    (fits_2 sub url (omega arith))
    j c x g

-- Subpaths, and the name of the second walk ------------------------------------------------------------------------------------------

pub subpath_short : (n : ℕ) (s : List ℕ) → length s ≤ n → length (package_subpath s) ≤ n
unfolding package_subpath
subpath_short n s h = omega (arith, length-drop (length (package_name s)) s)

pub strip_short : (n : ℕ) (s name t : List ℕ) → length s ≤ n → strip_package_name s name ≡ some t → length t ≤ n
unfolding strip_package_name
strip_short n s name t h e = by (starts_with name s && (equal (drop (length name) s) [] || starts_with (text "/") (drop (length name) s) || starts_with (text "\\") (drop (length name) s))) e
  where
    by : (u : Bool) → (if u then some (drop (length name) s) else none) ≡ some t → length t ≤ n
    by true e = let x : drop (length name) s ≡ t = cc in rw (← x) (omega (arith, length-drop (length name) s))
    by false e = absurd (let z : ◌≡◌ {A = ℕ} 0 1 = cc in omega arith)

pub dot_short : (n : ℕ) (s : List ℕ) → length s ≤ n → length (dot_subpath s) ≤ suc n
unfolding dot_subpath
dot_short n s h = if_short (suc n) (starts_with (text ".") s) s (text "." ++ s) (omega arith) (omega (arith, length-append (text ".") s))

-- Directories -----------------------------------------------------------------------------------------------------------------------

-- the directories above a path are no longer than it
abbrev pub AllAtMost : ℕ → List (List ℕ) → Type 0
AllAtMost n [] = Unit {0}
AllAtMost n (p ∷ ps) = (length p ≤ n) × AllAtMost n ps

climb_short : (n d : ℕ) (p : List ℕ) → length p ≤ n → 1 ≤ n → AllAtMost n (climb d p)
unfolding climb
climb_short n zero p h k = (h, tt)
climb_short n (suc d) p h k = (h, climb_short n d (parent p) (parent_short n p h k) k)

pub dirs_short : (n : ℕ) (p : List ℕ) → length p ≤ n → 1 ≤ n → AllAtMost n (dirs p)
unfolding dirs
dirs_short n p h k = climb_short n (depth p) p h k

-- the specifier of the second walk
pub normalized_short : (n : ℕ) (s : List ℕ) → length s ≤ n → length (normalized_specifier s) ≤ n + 3
unfolding normalized_specifier
normalized_short n s h =
    omega (arith, normalize_relative_short s, length-append (normalize_relative s) (if ends_with (text "/") s then text "/" else []), if_short 1 (ends_with (text "/") s) (text "/") [] (omega arith) (omega arith))

pub climbing_short : (n : ℕ) (s t : List ℕ) → length s ≤ n → climbing s ≡ some t → length t ≤ n + 3
unfolding climbing
climbing_short n s t h e = by ((contains_text (text "/../..") s || contains_text (text "../../") s) && equal (package_name (normalized_specifier s)) (text "..")) e
  where
    by : (u : Bool) → (if u then some (normalized_specifier s) else none) ≡ some t → length t ≤ n + 3
    by true e = let x : normalized_specifier s ≡ t = cc in rw (← x) (normalized_short n s h)
    by false e = absurd (let z : ◌≡◌ {A = ℕ} 0 1 = cc in omega arith)
