-- HOW LONG THE TEXTS OF A LOOKUP ARE, for bare names and for names that begin with "#": every consulted path has at most
-- 2,048 bytes, and the texts of an answer have at most 6,157 together. One induction over all routines. What it says of
-- errors is said only where B holds, so that the paths are within the limit whatever the name is.
use Rattle.std.specs.Prelude.{◌≡◌, Bool, ◌&&◌, ◌||◌, ◌⊎◌, drop, take, leb, ltb, if◌then◌else◌}
use Rattle.std.proofs.Math.Path.{refl}
use Rattle.std.proofs.Math.Bool.{true, false, not}
use mathlib.Core.List.{List, [], ◌∷◌, ◌++◌}
use Rattle.std.proofs.Math.Option.{Option, none, some}
use Rattle.std.proofs.Common.{inl, inr, length-append}
use Prim.Native.Nat.{ℕ, zero, suc, ◌+◌, ◌-◌, ◌%◌, ◌≤◌, ◌<◌}
use native.Mathlib.Omega.{arith}
use Rattle.std.proofs.Math.ListN.{length, length-take, length-drop}
use borrow.Author.Tests.{ltb-false}
use Rattle.definition.specs.Text.{Text, text, star, equal, ends_with, starts_with, contains, is_one_of, is_utf8, all, before, after}
use Rattle.definition.specs.Path.{Built, built, too_long, limited, normalize_with, add_extension, add_name_and_extension, is_invalid_exports_target, manifest_of, components, parent, dirs}
use Rattle.definition.specs.Specifier.{Specifier, parsed, empty_specifier, parse_specifier, package_subpath, dot_subpath, strip_package_name, climbing, first_is_normal, is_bare, is_hash, is_specifier}
use Rattle.definition.specs.Listing.{Entry, no_entry, directory_entry, file_entry, rows, row_fits, sizes_fit, passes30, passes31, passes32, entry_at, found_at, is_directory_of, accepted}
use Rattle.definition.specs.Settings.{Settings, settings_of}
use Rattle.definition.specs.Json.{Json, scalar, str, arr, obj, Elements, no_element, element, Members, no_member, member, Read, got, Fault, malformed, beyond, fault, parse, settled}
use Rattle.definition.specs.Exports as exports
use Rattle.definition.specs.Exports.{Failure, NotFound, Empty, InvalidModuleSpecifier, PackageImportNotDefined, PackagePathNotExported, JsonError, Recursion, failure_texts, Context, or_old, with_query_fragment, Outcome, Resolved, Request, Selected, Target, target, directory_error, is_subpath_key, star_match, pattern_match, normalize_string_target, outcome_of, target_path, invalid_target, or_dot, path_not_exported, is_empty, is_not_found, or_go_on_by, or_next_by, target_by, condition_by, element_by, select, entries}
use Rattle.definition.specs.Ask.{State, Listing, Step, go, stop, ret, end, ask, read, state_of, contents_of, answer, log, within, catch, ◌>>=◌, ◌>>◌, seen, viewed}
use Rattle.definition.specs.Manifest.{failed, too_many, refused, End, found, stopped, end_texts, Place, Manifest, field, or_first, first_field, fresh, resolved_to, as_place, exports_by, exports_of, imports_of, manifest_view, view_of, view}
use Rattle.definition.specs.Walk.{Look, Scope, never, when, unless, perhaps, for_each, given, is_file_state, is_dir, is_file, made, at, bare, not_found, left, leaving, sound, main_path, under, or_above, nearest, if_own, own, in_scope_dir, try_file, try_extension, try_index, LOAD_AS_FILE, LOAD_INDEX, load_main, LOAD_AS_DIRECTORY, RESOLVE_ESM_MATCH, by_match, by_exports, LOAD_PACKAGE_EXPORTS, in_scope, LOAD_PACKAGE_SELF, go_on, as_directory, as_file_or_directory, in_modules, in_directory, LOAD_NODE_MODULES, lookup, ending}
use Rattle.definition.specs.Called.{Question, seen_by, lookup_of, end_of, list_of, joined}
use Rattle.definition.specs.Imports.{Pending, Tried, tried, giving, unasked, caught, unless_ended, imports_way, start, require_relative, require_without_parse, require_path, require_joined, require_parsed, require, exports_or_relative, by_manifest, in_package, if_folder, in_folder, upwards, PACKAGE_RESOLVE, package_target, bare_target, string_target, on_string, PACKAGE_TARGET_RESOLVE, ends, PACKAGE_IMPORTS_EXPORTS_RESOLVE, PACKAGE_IMPORTS_RESOLVE, by_imports, LOAD_PACKAGE_IMPORTS, require_hash, resolve}
use Rattle.laws.specs.TextLaws.{and_true}
use Rattle.laws.specs.ExportsLaws.{Strings, StringsIn, StringsOf, Kept, Keeps, OptionHas, Chosen, select_has, get_has, exports_kept}
use Rattle.laws.specs.PathLaws.{parent_short}
use Rattle.laws.specs.FitLaws.{Fit, BuiltFits, limited_fits, normalize_with_fits, add_extension_fits, add_name_and_extension_fits, FailureFits, fits_1, fits_2, fits_3, manifest_short, subpath_short, strip_short, dot_short, climbing_short, match_short, AllAtMost, dirs_short}
use Rattle.laws.specs.ByteLaws.{Bytes, bytes_append, bytes_take, bytes_drop, bytes_replace, ParsedFits, parsed_fits, TextsOf, parsed_texts, bytes_subpath, utf8_bytes, SmallBytes, manifest_strings}
use Rattle.laws.specs.WithinLaws.{within_either}
use Rattle.laws.specs.WalkBounds as bounds
use Rattle.laws.specs.WalkBounds.{AllFit, within_fit, low_row}
use Rattle.laws.specs.SpecifierLaws.{specifier_short}
use Rattle.laws.specs.DepthLaws.{folder_at}
use Rattle.laws.specs.SearchLaws.{found_folder}

abbrev Sees : Type 0
Sees = Step Fault Manifest

abbrev pub ContextShort : Context → Type 0
ContextShort c = (length c.query ≤ 2049) × (length c.fragment ≤ 2049)

abbrev pub PlaceShort : Place → Type 0
PlaceShort w = Fit w.path × ((length w.query ≤ 2049) × (length w.fragment ≤ 2049))

-- a path that is found is within the limit, and so are the texts of an error where B holds
abbrev pub OutcomeIf : Type 0 → Outcome → Type 0
OutcomeIf B (Outcome.found p) = Fit p
OutcomeIf B Outcome.nothing = Unit {0}
OutcomeIf B (Outcome.failed f) = B → FailureFits f
OutcomeIf B Outcome.overlong = Unit {0}

outcome_if : {B D : Type 0} → (D → B) → (o : Outcome) → OutcomeIf B o → OutcomeIf D o
outcome_if k (Outcome.found p) h = h
outcome_if k Outcome.nothing h = tt
outcome_if k (Outcome.failed f) h = λ d. h (k d)
outcome_if k Outcome.overlong h = tt

-- what a manifest gives
abbrev Near : Text → Text → Type 0
Near dir sub = (length dir ≤ 2048) × (length sub ≤ 4102)

pub record Fair (m : Manifest) : Type 0 where
  pub gives : (r : Text → Text → Context → Resolved) → m.exports ≡ some r → (dir sub : Text) (c : Context) → ContextShort c → Kept ContextShort (OutcomeIf (Near dir sub)) (r dir sub c)
  pub leads : (select : Text → Option Selected) → m.imports ≡ some select → (k : Text) → OptionHas (Chosen SmallBytes k) (select k)

abbrev pub FairSeen : Option Sees → Type 0
FairSeen none = Unit {0}
FairSeen (some (stop f)) = Unit {0}
FairSeen (some (go m)) = Fair m

-- how a lookup ends
abbrev pub EndIf : Type 0 → End → Type 0
EndIf B (found w) = PlaceShort w
EndIf B (stopped (failed f c)) = (B → FailureFits f) × ContextShort c
EndIf B (stopped (refused r)) = Unit {0}

-- whatever is answered, only paths within the limit are asked for, and P holds of what comes back
abbrev pub Every : Type 0 → {A : Type 0} → (A → Type 0) → Look A → Type 0
Every B P (ret a) = P a
Every B P (end e) = EndIf B e
Every B P (ask p k) = Fit p × ((s : State) → Every B P (k s))
Every B P (read p k) = Fit p × ((o : Option Sees) → FairSeen o → Every B P (k o))

abbrev Any : {A : Type 0} → A → Type 0
Any a = Unit {0}

pub every_log : (B : Type 0) {A : Type 0} (P : A → Type 0) (L : Listing Sees) → ((p : Text) → FairSeen (contents_of (L p))) → (t : Look A) → Every B P t → AllFit (log L t)
unfolding log
every_log B P L f (ret a) h = tt
every_log B P L f (end e) h = tt
every_log B P L f (ask p k) h = (h.0, every_log B P L f (k (state_of (L p))) (h.1 (state_of (L p))))
every_log B P L f (read p k) h = (h.0, every_log B P L f (k (contents_of (L p))) (h.1 (contents_of (L p)) (f p)))

-- how it comes back
abbrev Came : Type 0 → {A : Type 0} → (A → Type 0) → Step End A → Type 0
Came B P (go a) = P a
Came B P (stop e) = EndIf B e

pub every_answer : (B : Type 0) {A : Type 0} (P : A → Type 0) (L : Listing Sees) → ((p : Text) → FairSeen (contents_of (L p))) → (t : Look A) → Every B P t → Came B P (answer L t)
unfolding answer
every_answer B P L f (ret a) h = h
every_answer B P L f (end e) h = h
every_answer B P L f (ask p k) h = every_answer B P L f (k (state_of (L p))) (h.1 (state_of (L p)))
every_answer B P L f (read p k) h = every_answer B P L f (k (contents_of (L p))) (h.1 (contents_of (L p)) (f p))

fresh_short : ContextShort fresh
unfolding fresh
fresh_short = (omega arith, omega arith)

-- the texts of errors
json_fits : (d : Text) → length d ≤ 2048 → FailureFits (JsonError (manifest_of d))
unfolding failure_texts
json_fits d h = fits_1 (manifest_of d) (omega (arith, manifest_short d))

missing_fits : (s : Text) → length s ≤ 6157 → FailureFits (NotFound s)
unfolding failure_texts
missing_fits s h = fits_1 s h

empty_fits : (s : Text) → length s ≤ 6157 → FailureFits (Empty s)
unfolding failure_texts
empty_fits s h = fits_1 s h

exported_fits : (s d : Text) → length s + length d ≤ 6157 → FailureFits (PackagePathNotExported s d)
unfolding failure_texts
exported_fits s d h = fits_2 s d h

named_fits : (s d : Text) → length s ≤ 512 → length d ≤ 2048 → FailureFits (InvalidModuleSpecifier s (manifest_of d)) × FailureFits (PackageImportNotDefined s (manifest_of d))
unfolding failure_texts
named_fits s d h k = (fits_2 s (manifest_of d) (omega (arith, manifest_short d)), fits_2 s (manifest_of d) (omega (arith, manifest_short d)))

nested_fits : FailureFits Recursion
unfolding failure_texts joined
nested_fits = omega arith

module _ (B : Type 0) where
  every_bind : {A C : Type 0} (P : A → Type 0) (Q : C → Type 0) (t : Look A) (f : A → Look C) → Every B P t → ((a : A) → P a → Every B Q (f a)) → Every B Q (t >>= f)
  unfolding ◌>>=◌
  every_bind P Q (ret a) f h g = g a h
  every_bind P Q (end e) f h g = h
  every_bind P Q (ask p k) f h g = (h.0, λ s. every_bind P Q (k s) f (h.1 s) g)
  every_bind P Q (read p k) f h g = (h.0, λ o x. every_bind P Q (k o) f (h.1 o x) g)

  every_seq : {A C : Type 0} (Q : C → Type 0) (t : Look A) (u : Look C) → Every B Any t → Every B Q u → Every B Q (t >> u)
  unfolding ◌>>◌
  every_seq Q t u h g = every_bind Any Q t (λ _. u) h (λ _ _. g)

  left_short : (c : Context) (e : End) → ContextShort c → EndIf B e → EndIf B (left c e)
  unfolding left
  left_short c (found w) s h = h
  left_short c (stopped (failed f d)) s h = (h.0, s)
  left_short c (stopped (refused r)) s h = tt

  every_leaving : {A : Type 0} (P : A → Type 0) (c : Context) (t : Look A) → ContextShort c → Every B P t → Every B P (leaving c t)
  unfolding leaving
  every_leaving P c (ret a) s h = h
  every_leaving P c (end e) s h = left_short c e s h
  every_leaving P c (ask p k) s h = (h.0, λ x. every_leaving P c (k x) s (h.1 x))
  every_leaving P c (read p k) s h = (h.0, λ o x. every_leaving P c (k o) s (h.1 o x))

  every_when : (b : Bool) (t : Look (Unit {0})) → Every B Any t → Every B Any (when b t)
  unfolding when
  every_when true t h = h
  every_when false t h = tt

  every_unless : (b : Bool) (t : Look (Unit {0})) → Every B Any t → Every B Any (unless b t)
  unfolding unless
  every_unless true t h = tt
  every_unless false t h = h

  every_perhaps : {A : Type 0} (o : Option A) (f : A → Look (Unit {0})) → ((a : A) → o ≡ some a → Every B Any (f a)) → Every B Any (perhaps o f)
  unfolding perhaps
  every_perhaps none f h = tt
  every_perhaps (some a) f h = h a refl

  every_for_each : {A : Type 0} (l : List A) (f : A → Look (Unit {0})) → ((a : A) → Every B Any (f a)) → Every B Any (for_each l f)
  unfolding for_each
  every_for_each [] f h = tt
  every_for_each (a ∷ l) f h = every_seq Any (f a) (for_each l f) (h a) (every_for_each l f h)

  every_never : (t : Look ⊥) → Every B Any t → Every B Any (never t)
  unfolding never
  every_never t h = every_bind Any Any t (λ x. absurd x) h (λ x _. absurd x)

  every_if : {A : Type 0} (P : A → Type 0) (b : Bool) (t u : Look A) → (b ≡ true → Every B P t) → (b ≡ false → Every B P u) → Every B P (if b then t else u)
  every_if P true t u h k = h refl
  every_if P false t u h k = k refl

  every_is_dir : (p : Text) → Fit p → Every B Any (is_dir p)
  unfolding is_dir
  every_is_dir p f = (f, λ s. tt)

  every_made : (b : Built) → BuiltFits b → Every B Fit (made b)
  unfolding made
  every_made (built p) h = h
  every_made too_long h = tt

  every_sound : (d : Text) (m : Sees) → length d ≤ 2048 → FairSeen (some m) → Every B Fair (sound (manifest_of d) m)
  unfolding sound
  every_sound d (go m) l h = h
  every_sound d (stop malformed) l h = ((λ _. json_fits d l), fresh_short)
  every_sound d (stop beyond) l h = tt

-- a routine that is caught
every_catch : (B D : Type 0) {A : Type 0} (P : A → Type 0) (t : Look A) → Every B P t → Every D (Came B P) (catch t)
unfolding catch
every_catch B D P (ret a) h = h
every_catch B D P (end e) h = h
every_catch B D P (ask p k) h = (h.0, λ s. every_catch B D P (k s) (h.1 s))
every_catch B D P (read p k) h = (h.0, λ o x. every_catch B D P (k o) (h.1 o x))

-- what the nearest manifest comes back as
abbrev FairScope : Option Scope → Type 0
FairScope none = Unit {0}
FairScope (some s) = Fair s.manifest × (length s.dir ≤ 2048)

abbrev FairOwn : Option Manifest → Type 0
FairOwn none = Unit {0}
FairOwn (some m) = Fair m

-- TARGETS -------------------------------------------------------------------------------------------------------------

-- a request, where B holds
record RequestShort (q : Request) : Type 0 where
  url : length q.package_url ≤ 2048
  key : length q.key ≤ 1024
  part : length (or_dot q.matched) ≤ 4102

built_if : (B : Type 0) (b : Built) → BuiltFits b → OutcomeIf B (outcome_of b)
unfolding outcome_of
built_if B (built p) h = h
built_if B too_long h = tt

outcome_by : (B : Type 0) (u : Bool) (x y : Outcome) → (u ≡ true → OutcomeIf B x) → (u ≡ false → OutcomeIf B y) → OutcomeIf B (if u then x else y)
outcome_by B true x y h k = h refl
outcome_by B false x y h k = k refl

module _ (B : Type 0) (q : Request) (r : B → RequestShort q) where
  invalid_if : (t : Text) → length t ≤ 2048 → OutcomeIf B (invalid_target q t)
  unfolding invalid_target failure_texts
  invalid_if t h = λ b. let s = r b in let u = s.url in let k = s.key in fits_3 t q.key (manifest_of q.package_url) (omega (arith, manifest_short q.package_url))

  config_if : OutcomeIf B (Outcome.failed (exports.InvalidPackageConfigDirectory (manifest_of q.package_url)))
  unfolding failure_texts
  config_if = λ b. let s = r b in let u = s.url in fits_1 (manifest_of q.package_url) (omega (arith, manifest_short q.package_url))

  empty_if : OutcomeIf B (path_not_exported (or_dot q.matched) q.package_url)
  unfolding path_not_exported
  empty_if = λ b. let s = r b in let u = s.url in let p = s.part in exported_fits (or_dot q.matched) q.package_url (omega arith)

  path_if : (t : Target) → OutcomeIf B (target_path q t)
  unfolding target_path
  path_if directory_error = config_if
  path_if (target t) =
      outcome_by B (ltb 2048 (length t)) _ _ (λ _. tt) (λ e.
      outcome_by B (is_invalid_exports_target t) _ _ (λ _. invalid_if t (let l = ltb-false 2048 (length t) e in omega arith)) (λ _.
      built_if B (normalize_with q.package_url t) (normalize_with_fits q.package_url t)))

or_old_short : (n : ℕ) (new old : List ℕ) → length new ≤ n → length old ≤ n → length (or_old new old) ≤ n
unfolding or_old
or_old_short n [] old h k = k
or_old_short n (b ∷ new) old h k = h

context_short : (c : Context) (query fragment : Text) → ContextShort c → length query ≤ 2049 → length fragment ≤ 2049 → ContextShort (with_query_fragment c query fragment)
unfolding with_query_fragment
context_short c query fragment h q f = (or_old_short 2049 query c.query q h.0, or_old_short 2049 fragment c.fragment f h.1)

-- exports
exports_string : (B : Type 0) (q : Request) (s : Specifier) (t : Text) (c : Context) → (B → RequestShort q) → SmallBytes t → ParsedFits 1024 s → ContextShort c
    → Kept ContextShort (OutcomeIf B) (exports.string_target q s t c)
unfolding exports.string_target
exports_string B q empty_specifier t c r x p h = record { context = h; outcome = λ _. empty_fits t (omega (arith, x.0)) }
exports_string B q (parsed path query fragment) t c r x p h = record {
  context = context_short c query fragment h (omega (arith, p.1.0)) (omega (arith, p.1.1));
  outcome = outcome_by B (starts_with (text "./") path) _ _ (λ _. path_if B q r _) (λ _. invalid_if B q r path (omega (arith, p.0.1)));
}

keeps_if : (B : Type 0) → Keeps SmallBytes ContextShort (λ q. B → RequestShort q) (OutcomeIf B)
keeps_if B = record {
  strings = λ q s c r x h. exports_string B q (parse_specifier s) s c r x (parsed_fits 1024 s x.0 x.1) h;
  empty_array = λ q r. empty_if B q r;
  nowhere = tt;
}

exports_if : (G : Settings) (j : Json) → Strings SmallBytes j → (dir sub : Text) (c : Context) → ContextShort c → Kept ContextShort (OutcomeIf (Near dir sub)) (exports_by G j dir sub c)
unfolding exports_by or_dot failure_texts
exports_if G j s dir sub c h =
    exports_kept (keeps_if (Near dir sub)) dir G.conditions sub
    (λ n. record { url = n.0; key = omega arith; part = omega arith })
    (λ k x n. record { url = n.0; key = x.0; part = omega arith })
    (λ k x n. record { url = n.0; key = x.0; part = match_short 4102 sub k n.1 (omega arith) })
    (λ n. fits_1 (manifest_of dir) (omega (arith, n.0, manifest_short dir)))
    (λ n. fits_2 sub dir (omega (arith, n.0, n.1)))
    j c s h

field_has : (j : Json) (k : Text) → Strings SmallBytes j → OptionHas (Strings SmallBytes) (field j k)
unfolding field Strings
field_has scalar k h = tt
field_has (str s) k h = tt
field_has (arr js) k h = tt
field_has (obj ms) k h = get_has SmallBytes k ms h

first_has : (j : Json) (ks : List Text) → Strings SmallBytes j → OptionHas (Strings SmallBytes) (first_field j ks)
unfolding first_field
first_has j [] h = tt
first_has j (k ∷ ks) h = or (field j k) (field_has j k h) (first_has j ks h)
  where
    or : (o : Option Json) → OptionHas (Strings SmallBytes) o → OptionHas (Strings SmallBytes) (first_field j ks) → OptionHas (Strings SmallBytes) (or_first o (first_field j ks))
    or none a b = unfold or_first in b
    or (some i) a b = unfold or_first in a

none_some : {A X : Type 0} {a : A} → ◌≡◌ {A = Option A} none (some a) → X
none_some e = absurd (let z : ◌≡◌ {A = ℕ} 0 1 = cc in omega arith)

gives_if : (G : Settings) (o : Option Json) → OptionHas (Strings SmallBytes) o → (r : Text → Text → Context → Resolved) → exports_of G o ≡ some r
    → (dir sub : Text) (c : Context) → ContextShort c → Kept ContextShort (OutcomeIf (Near dir sub)) (r dir sub c)
unfolding exports_of
gives_if G none s r e dir sub c h = none_some e
gives_if G (some j) s r e dir sub c h = let x : exports_by G j ≡ r = cc in rw (← x) (exports_if G j s dir sub c h)

leads_if : (o : Option Json) → OptionHas (Strings SmallBytes) o → (f : Text → Option Selected) → imports_of o ≡ some f → (k : Text) → OptionHas (Chosen SmallBytes k) (f k)
unfolding imports_of Strings
leads_if none s f e k = none_some e
leads_if (some scalar) s f e k = none_some e
leads_if (some (str t)) s f e k = none_some e
leads_if (some (arr js)) s f e k = none_some e
leads_if (some (obj ms)) s f e k = let x : (λ name. select name (entries ms)) ≡ f = cc in rw (← x) (select_has SmallBytes k ms s)

fair_view : (G : Settings) (b : List ℕ) (r : Read Json) → parse b ≡ r → FairSeen (some (view_of G r))
unfolding view_of manifest_view
fair_view G b (got j s) e =
    let t = manifest_strings b j s e in
    record {
      gives = gives_if G (first_field (settled j) G.exports_fields) (first_has (settled j) G.exports_fields t);
      leads = leads_if (first_field (settled j) G.imports_fields) (first_has (settled j) G.imports_fields t);
    }
fair_view G b (fault f) e = tt

pub fair_seen : (G : Settings) (e : Entry (List ℕ)) → FairSeen (contents_of (viewed (view G) e))
unfolding contents_of viewed view
fair_seen G no_entry = tt
fair_seen G directory_entry = tt
fair_seen G (file_entry b) = fair_view G b (parse b) refl

-- BARE NAMES -----------------------------------------------------------------------------------------------------------

module _ (G : Settings) (B : Type 0) where
  every_under : (p x : Text) → Every B Fit (under G p x)
  unfolding under
  every_under p x = every_made B (normalize_with p x) (normalize_with_fits p x)

  every_or_above : (d : Text) (above : Look (Option Scope)) (o : Option Sees) → length d ≤ 2048 → FairSeen o → Every B FairScope above → Every B FairScope (or_above G d above o)
  unfolding or_above
  every_or_above d above none l f h = h
  every_or_above d above (some m) l f h = every_bind B Fair FairScope (sound (manifest_of d) m) (λ m. ret (some (record { dir = d; manifest = m }))) (every_sound B d m l f) (λ m g. (g, l))

  every_nearest : (ds : List Text) → AllAtMost 2048 ds → Every B FairScope (nearest G ds)
  unfolding nearest
  every_nearest [] l = tt
  every_nearest (d ∷ ds) l =
      every_bind B Fit FairScope (made (limited (manifest_of d))) (λ p. read p (or_above G d (nearest G ds))) (every_made B (limited (manifest_of d)) (limited_fits (manifest_of d)))
      (λ p f. (f, λ o x. every_or_above d (nearest G ds) o l.0 x (every_nearest ds l.1)))

  fair_if_own : (d : Text) (o : Option Scope) → FairScope o → FairOwn (if_own G d o)
  unfolding if_own
  fair_if_own d none h = tt
  fair_if_own d (some s) h = by (equal s.dir d)
    where
      by : (b : Bool) → FairOwn (if b then some s.manifest else none)
      by true = h.0
      by false = tt

  above_short : (d : Text) → Fit d → AllAtMost 2048 (dirs d)
  above_short d f = dirs_short 2048 d f (omega arith)

  every_own : (d : Text) → Fit d → Every B FairOwn (own G d)
  unfolding own
  every_own d f = every_bind B FairScope FairOwn (nearest G (dirs d)) (λ s. ret (if_own G d s)) (every_nearest (dirs d) (above_short d f)) (λ s h. fair_if_own d s h)

  every_try_file : (w : Place) → PlaceShort w → Every B Any (try_file G w)
  unfolding try_file is_file ◌>>=◌
  every_try_file w f = (f.0, λ s. every_when B (is_file_state s) (end (found w)) f)

  every_try_extension : (w : Place) (x : Text) → PlaceShort w → Every B Any (try_extension G w x)
  unfolding try_extension at
  every_try_extension w x h = every_bind B Fit Any (made (add_extension w.path x)) (λ q. try_file G (at w q)) (every_made B _ (add_extension_fits w.path x)) (λ q f. every_try_file (at w q) (f, h.1))

  every_try_index : (w : Place) (n x : Text) → PlaceShort w → Every B Any (try_index G w n x)
  unfolding try_index at
  every_try_index w n x h = every_bind B Fit Any (made (add_name_and_extension w.path n x)) (λ q. try_file G (at w q)) (every_made B _ (add_name_and_extension_fits w.path n x)) (λ q f. every_try_file (at w q) (f, h.1))

  every_LOAD_AS_FILE : (w : Place) → PlaceShort w → Every B Any (LOAD_AS_FILE G w)
  unfolding LOAD_AS_FILE
  every_LOAD_AS_FILE w f = every_seq B Any (try_file G w) (for_each G.extensions (try_extension G w)) (every_try_file w f) (every_for_each B G.extensions (try_extension G w) (λ x. every_try_extension w x f))

  every_LOAD_INDEX : (w : Place) → PlaceShort w → Every B Any (LOAD_INDEX G w)
  unfolding LOAD_INDEX
  every_LOAD_INDEX w h = every_for_each B G.main_files (λ n. for_each G.extensions (try_index G w n)) (λ n. every_for_each B G.extensions (try_index G w n) (λ x. every_try_index w n x h))

  every_load_main : (w : Place) (x : Text) → PlaceShort w → Every B Any (load_main G w x)
  unfolding load_main at
  every_load_main w x h =
      every_bind B Fit Any (under G w.path (main_path x)) (λ q. LOAD_AS_FILE G (at w q) >> LOAD_INDEX G (at w q)) (every_under _ _)
      (λ q f. every_seq B Any (LOAD_AS_FILE G (at w q)) (LOAD_INDEX G (at w q)) (every_LOAD_AS_FILE (at w q) (f, h.1)) (every_LOAD_INDEX (at w q) (f, h.1)))

  every_LOAD_AS_DIRECTORY : (w : Place) → PlaceShort w → Every B Any (LOAD_AS_DIRECTORY G w)
  unfolding LOAD_AS_DIRECTORY
  every_LOAD_AS_DIRECTORY w h =
      every_bind B FairOwn Any (own G w.path) (λ o. perhaps o (λ m. for_each G.main_fields λ f. perhaps (m.main f) (load_main G w)) >> LOAD_INDEX G w) (every_own w.path h.0)
      (λ o _. every_seq B Any (perhaps o (λ m. for_each G.main_fields λ f. perhaps (m.main f) (load_main G w))) (LOAD_INDEX G w)
      (every_perhaps B o _ (λ m _. every_for_each B G.main_fields _ (λ f. every_perhaps B (m.main f) _ (λ x _. every_load_main w x h)))) (every_LOAD_INDEX w h))

  every_RESOLVE_ESM_MATCH : (spec : Text) (w : Place) → (B → length spec ≤ 6157) → PlaceShort w → Every B Any (RESOLVE_ESM_MATCH G spec w)
  unfolding RESOLVE_ESM_MATCH not_found
  every_RESOLVE_ESM_MATCH spec w n f =
      every_seq B Any (LOAD_AS_FILE G w) _ (every_LOAD_AS_FILE w f)
      (every_bind B Any Any (is_dir w.path) _ (every_is_dir B _ f.0) (λ b _.
      every_seq B Any (when b (LOAD_AS_DIRECTORY G w)) (end (not_found spec)) (every_when B b _ (every_LOAD_AS_DIRECTORY w f)) ((λ x. missing_fits spec (n x)), fresh_short)))

  place_short : (c : Context) (dir sub : Text) (o : Outcome) → ContextShort c → (B → Near dir sub) → OutcomeIf B o → Every B PlaceShort (given (resolved_to c dir sub o))
  unfolding resolved_to given
  place_short c dir sub (Outcome.found p) s n h = (h, s)
  place_short c dir sub Outcome.nothing s n h = ((λ b. let x = n b in exported_fits sub dir (omega (arith, x.0, x.1))), s)
  place_short c dir sub (Outcome.failed f) s n h = (h, s)
  place_short c dir sub Outcome.overlong s n h = tt

  every_by_exports : (spec dir sub : Text) (m : Manifest) → (B → length spec ≤ 6157) → (B → length sub ≤ 4101) → Fit dir → Fair m → Every B Any (by_exports G spec dir sub m)
  unfolding by_exports by_match as_place
  every_by_exports spec dir sub m l k f g =
      every_perhaps B m.exports _ (λ r x.
      let z : Resolved = r dir (dot_subpath sub) fresh in
      let v = g.gives r x dir (dot_subpath sub) fresh fresh_short in
      let near : B → Near dir (dot_subpath sub) = λ b. (f, dot_short 4101 sub (k b)) in
      every_leaving B Any z.context _ v.context
      (every_bind B PlaceShort Any (given (resolved_to z.context dir (dot_subpath sub) z.outcome)) _
      (place_short z.context dir (dot_subpath sub) z.outcome v.context near (outcome_if near z.outcome v.outcome))
      (λ w f. every_never B _ (every_RESOLVE_ESM_MATCH spec w l f))))

  every_LOAD_PACKAGE_EXPORTS : (spec sub dir : Text) → (B → length spec ≤ 6157) → (B → length sub ≤ 4101) → Fit dir → Every B Any (LOAD_PACKAGE_EXPORTS G spec sub dir)
  unfolding LOAD_PACKAGE_EXPORTS
  every_LOAD_PACKAGE_EXPORTS spec sub dir l k f = every_bind B FairOwn Any (own G dir) (λ o. perhaps o (by_exports G spec dir sub)) (every_own dir f) (λ o h. by o h)
    where
      by : (o : Option Manifest) → FairOwn o → Every B Any (perhaps o (by_exports G spec dir sub))
      by none h = unfold perhaps in tt
      by (some m) h = unfold perhaps in (every_by_exports spec dir sub m l k f h)

  every_in_scope : (spec : Text) (s : Scope) → (B → length spec ≤ 4098) → FairScope (some s) → Every B Any (in_scope G spec s)
  unfolding in_scope
  every_in_scope spec s l h =
      every_perhaps B s.manifest.name _ (λ n _. every_perhaps B (strip_package_name spec n) _ (λ sub e.
      every_by_exports spec s.dir sub s.manifest (λ b. let x = l b in omega arith) (λ b. let x = strip_short 4098 spec n sub (l b) e in omega arith) h.1 h.0))

  every_LOAD_PACKAGE_SELF : (start spec : Text) → (B → length spec ≤ 4098) → Fit start → Every B Any (LOAD_PACKAGE_SELF G start spec)
  unfolding LOAD_PACKAGE_SELF
  every_LOAD_PACKAGE_SELF start spec l f =
      every_bind B FairScope Any (nearest G (dirs start)) (λ s. perhaps s (in_scope G spec)) (every_nearest (dirs start) (above_short start f)) (λ o h. by o h)
    where
      by : (o : Option Scope) → FairScope o → Every B Any (perhaps o (in_scope G spec))
      by none h = unfold perhaps in tt
      by (some s) h = unfold perhaps in (every_in_scope spec s l h)

  every_go_on : (spec name sub q : Text) (b : Bool) → (B → length spec ≤ 6157) → (B → length sub ≤ 4101) → Fit q → Every B Any (go_on G spec name sub q b)
  unfolding go_on
  every_go_on spec name sub q true l k f = every_seq B Any (LOAD_PACKAGE_EXPORTS G spec sub q) (ret true) (every_LOAD_PACKAGE_EXPORTS spec sub q l k f) tt
  every_go_on spec name [] q false l k f = by (starts_with (text "@") name)
    where
      by : (b : Bool) → Every B Any (in_scope_dir G q b)
      by true = unfold in_scope_dir in (every_is_dir B (parent q) (parent_short 2048 q f (omega arith)))
      by false = unfold in_scope_dir in tt
  every_go_on spec name (x ∷ xs) q false l k f = tt

  bare_short : (p : Text) → Fit p → PlaceShort (bare p)
  unfolding bare
  bare_short p f = (f, (omega arith, omega arith))

  every_as_directory : (w : Place) (b : Bool) → PlaceShort w → Every B Any (as_directory G w b)
  unfolding as_directory
  every_as_directory w true f = every_LOAD_AS_DIRECTORY w f
  every_as_directory w false f = every_LOAD_AS_FILE w f

  every_as_file_or_directory : (spec name nm : Text) → Every B Any (as_file_or_directory G spec name nm)
  unfolding as_file_or_directory
  every_as_file_or_directory spec name nm =
      every_bind B Fit Any (under G nm spec) _ (every_under nm spec) (λ q f.
      every_seq B Any (unless (equal spec name) (unless (ends_with (text "/") spec) (LOAD_AS_FILE G (bare q)))) _
      (every_unless B (equal spec name) _ (every_unless B (ends_with (text "/") spec) _ (every_LOAD_AS_FILE (bare q) (bare_short q f))))
      (every_bind B Any Any (is_dir q) _ (every_is_dir B q f) (λ b _. every_as_directory (bare q) b (bare_short q f))))

  every_in_modules : (spec name sub nm : Text) → (B → length spec ≤ 6157) → (B → length sub ≤ 4101) → Every B Any (in_modules G spec name sub nm)
  unfolding in_modules
  every_in_modules spec name sub nm l k =
      every_bind B Fit Any (under G nm name) _ (every_under nm name) (λ q f.
      every_bind B Any Any (is_dir q) _ (every_is_dir B q f) (λ b _.
      every_bind B Any Any (go_on G spec name sub q b) _ (every_go_on spec name sub q b l k f) (λ more _. every_when B more _ (every_as_file_or_directory spec name nm))))

  every_in_directory : (spec name sub d : Text) → (B → length spec ≤ 6157) → (B → length sub ≤ 4101) → Fit d → Every B Any (in_directory G spec name sub d)
  unfolding in_directory
  every_in_directory spec name sub d l k g =
      every_bind B Any Any (is_dir d) _ (every_is_dir B d g) (λ b _.
      every_when B b _
      (every_bind B Fit Any (under G d (text "node_modules")) _ (every_under d _) (λ nm f. every_bind B Any Any (is_dir nm) _ (every_is_dir B nm f) (λ c _. every_when B c _ (every_in_modules spec name sub nm l k)))))

  every_paths : (l : List Text) (f : Text → Look (Unit {0})) → AllAtMost 2048 l → ((d : Text) → Fit d → Every B Any (f d)) → Every B Any (for_each l f)
  unfolding for_each
  every_paths [] f b h = tt
  every_paths (d ∷ l) f b h = every_seq B Any (f d) (for_each l f) (h d b.0) (every_paths l f b.1 h)

  every_LOAD_NODE_MODULES : (start spec : Text) → (B → length spec ≤ 4101) → Fit start → Every B Any (LOAD_NODE_MODULES G start spec)
  unfolding LOAD_NODE_MODULES
  every_LOAD_NODE_MODULES start spec l f =
      every_paths (dirs start) _ (above_short start f) (λ d g. every_in_directory spec _ _ d (λ b. let x = l b in omega arith) (λ b. subpath_short 4101 spec (l b)) g)

  pub every_lookup : (start spec : Text) → (B → length spec ≤ 4098) → Fit start → Every B Any (lookup G start spec)
  unfolding lookup not_found
  every_lookup start spec l f =
      every_seq B Any (LOAD_PACKAGE_SELF G start spec) _ (every_LOAD_PACKAGE_SELF start spec l f)
      (every_seq B Any (LOAD_NODE_MODULES G start spec) _ (every_LOAD_NODE_MODULES start spec (λ b. let x = l b in omega arith) f)
      (every_seq B Any (perhaps (climbing spec) (LOAD_NODE_MODULES G start)) (end (not_found spec))
      (every_perhaps B (climbing spec) _ (λ t e. every_LOAD_NODE_MODULES start t (λ b. climbing_short 4098 spec t (l b) e) f)) ((λ b. missing_fits spec (let x = l b in omega arith)), fresh_short)))

-- NAMES THAT BEGIN WITH "#" ----------------------------------------------------------------------------------------------

-- the part that a "*" stands for, in a request of an imports map
abbrev PartBytes : Option Text → Type 0
PartBytes none = Unit {0}
PartBytes (some m) = Bytes m

module _ (G : Settings) (B : Type 0) where
  abbrev TriedIf : Tried → Type 0
  TriedIf t = ContextShort t.pending.context × OutcomeIf B t.outcome

  every_tried : (c : Context) (n : ℕ) (o : Outcome) → ContextShort c → OutcomeIf B o → Every B TriedIf (tried c n o)
  unfolding tried
  every_tried c n (Outcome.found p) s h = (s, h)
  every_tried c n Outcome.nothing s h = (s, tt)
  every_tried c n (Outcome.failed f) s h = (s, h)
  every_tried c n Outcome.overlong s h = tt

  every_giving : (c : Pending) (o : Outcome) → ContextShort c.context → OutcomeIf B o → Every B TriedIf (giving c o)
  unfolding giving
  every_giving c o s h = every_tried c.context c.depth o s h

  every_caught : (D : Type 0) {A : Type 0} (P : A → Type 0) (back : A → Look Tried) (file : Place → Look Tried) (error : Context → Failure → Look Tried) (s : Step End A) → Came D P s
      → ((a : A) → P a → Every B TriedIf (back a)) → ((w : Place) → PlaceShort w → Every B TriedIf (file w))
      → ((c : Context) (f : Failure) → ContextShort c → (D → FailureFits f) → Every B TriedIf (error c f)) → Every B TriedIf (caught back file error s)
  unfolding caught
  every_caught D P back file error (go a) p h f e = h a p
  every_caught D P back file error (stop (found w)) p h f e = f w p
  every_caught D P back file error (stop (stopped (failed x c))) p h f e = e c x p.1 p.0
  every_caught D P back file error (stop (stopped (refused r))) p h f e = tt

  -- what is caught may have errors of any length, where they are dropped
  every_unless_ended : (D : Type 0) {A : Type 0} (P : A → Type 0) (t : Look A) (back : A → Look Tried) (file : Place → Look Tried) (error : Context → Failure → Look Tried) → Every D P t
      → ((a : A) → P a → Every B TriedIf (back a)) → ((w : Place) → PlaceShort w → Every B TriedIf (file w))
      → ((c : Context) (f : Failure) → ContextShort c → (D → FailureFits f) → Every B TriedIf (error c f)) → Every B TriedIf (unless_ended t back file error)
  unfolding unless_ended
  every_unless_ended D P t back file error m h f e = every_bind B (Came D P) TriedIf (catch t) (caught back file error) (every_catch D B P t m) (λ s p. every_caught D P back file error s p h f e)

  every_relative : (D : Type 0) (dir x : Text) → (D → length x ≤ 6157) → Every D Any (require_relative G dir x)
  unfolding require_relative not_found
  every_relative D dir x l =
      every_bind D Fit Any (under G dir x) _ (every_under G D dir x) (λ p f.
      every_seq D Any (unless (equal x (text ".") || ends_with (text "/") x) (LOAD_AS_FILE G (bare p))) _ (every_unless D _ _ (every_LOAD_AS_FILE G D (bare p) (bare_short G D p f)))
      (every_bind D Any Any (is_dir p) _ (every_is_dir D p f) (λ b _.
      every_seq D Any (when b (LOAD_AS_DIRECTORY G (bare p))) (end (not_found x)) (every_when D b _ (every_LOAD_AS_DIRECTORY G D (bare p) (bare_short G D p f))) ((λ d. missing_fits x (l d)), fresh_short))))

  every_without_parse : (D : Type 0) (dir x : Text) → (D → length x ≤ 4098) → Fit dir → Every D Any (require_without_parse G dir x)
  unfolding require_without_parse
  every_without_parse D dir x l f =
      every_if D Any (first_is_normal (components x)) (lookup G dir x) (require_relative G dir x) (λ _. every_lookup G D dir x l f) (λ _. every_relative D dir x (λ d. let z = l d in omega arith))

  module _ (dir : Text) (f : Fit dir) where
    every_require_path : (x : Text) (c : Pending) → (B → length x ≤ 4098) → ContextShort c.context → Every B TriedIf (require_path G dir x c)
    unfolding require_path
    every_require_path x c l s =
        every_unless_ended B Any (require_without_parse G dir x) _ _ _ (every_without_parse B dir x l f) (λ x _. absurd x) (λ w g. every_giving c (Outcome.found w.path) s g.0) (λ d e _ k. every_giving c (Outcome.failed e) s k)

    every_require_joined : (x q g : Text) (n : ℕ) → (B → length x ≤ 4098) → length q ≤ 2049 → length g ≤ 2049 → Every B TriedIf (require_joined G dir x q g n)
    unfolding require_joined
    every_require_joined x [] (b ∷ g) n l h k =
        every_unless_ended ⊥ Any _ _ _ _ (every_without_parse ⊥ dir _ (λ z. absurd z) f) (λ x _. absurd x) (λ w p. every_tried _ n (Outcome.found w.path) p.1 p.0) (λ d e s _. every_require_path x _ l (s.0, k))
    every_require_joined x [] [] n l h k = every_require_path x _ l fresh_short
    every_require_joined x (a ∷ q) g n l h k = every_require_path x _ l (h, k)

    every_require_parsed : (x : Text) (s : Specifier) (c : Context) (n : ℕ) → length x ≤ 2049 → (B → ParsedFits 2049 s) → TextsOf 2049 s → ContextShort c → Every B TriedIf (require_parsed G dir x s c n)
    unfolding require_parsed
    every_require_parsed x empty_specifier c n l p t h = every_tried c n _ h (λ _. empty_fits x (omega arith))
    every_require_parsed x (parsed path query fragment) c n l p t h =
        let d = context_short c query fragment h t.0 t.1 in
        every_require_joined path _ _ n (λ b. (p b).0.1) d.0 d.1

    every_require : (x : Text) (c : Pending) → length x ≤ 2049 → (B → Bytes x) → ContextShort c.context → Every B TriedIf (require G dir x c)
    unfolding require
    every_require x c l k h =
        let n : ℕ = (c.depth + 1) % 256 in
        every_if B TriedIf (ltb 64 n) _ _ (λ _. every_tried c.context n (Outcome.failed Recursion) h (λ _. nested_fits))
        (λ _. every_require_parsed x (parse_specifier x) c.context n l (λ b. parsed_fits 2049 x l (k b)) (parsed_texts 2049 x l) h)

    module _ (sub : Text) (l : length sub ≤ 2049) (k : B → Bytes sub) (c : Pending) (h : ContextShort c.context) where
      every_by_manifest : (o : Option Manifest) → FairOwn o → Every B TriedIf (by_manifest G dir sub c o)
      unfolding by_manifest
      every_by_manifest none g = every_require sub c l k h
      every_by_manifest (some m) g = by m.exports refl
        where
          by : (o : Option (Text → Text → Context → Resolved)) → m.exports ≡ o → Every B TriedIf (exports_or_relative G dir sub c o)
          by none e = unfold exports_or_relative in (every_require sub c l k h)
          by (some r) e = unfold exports_or_relative unasked in
              (let v = g.gives r e dir sub c.context h in every_tried _ _ _ v.context (outcome_if (λ _. (f, omega arith)) (r dir sub c.context).outcome v.outcome))

      every_in_package : Every B TriedIf (in_package G dir sub c)
      unfolding in_package
      every_in_package =
          every_unless_ended B FairOwn (own G dir) _ _ _ (every_own G B dir f) (λ o g. every_by_manifest o g) (λ w g. every_giving c Outcome.nothing h tt) (λ d e _ x. every_giving c (Outcome.failed e) h x)

  every_in_folder : (nm name sub : Text) (c : Pending) (next : Look Tried) (b : Bool) → length sub ≤ 2049 → (B → Bytes sub) → ContextShort c.context → Every B TriedIf next
      → Every B TriedIf (in_folder G nm name sub c next b)
  unfolding in_folder
  every_in_folder nm name sub c next false l k s h = h
  every_in_folder nm name sub c next true l k s h =
      every_bind B Fit TriedIf (under G nm name) _ (every_under G B nm name) (λ dir f. every_bind B Any TriedIf (is_dir dir) _ (every_is_dir B dir f) (λ b _. by dir f b))
    where
      by : (dir : Text) → Fit dir → (b : Bool) → Every B TriedIf (if_folder G dir sub c next b)
      by dir f true = unfold if_folder in (every_in_package dir f sub l k c s)
      by dir f false = unfold if_folder in h

  every_upwards : (spec : Text) (ds : List Text) (c : Pending) → length spec ≤ 2048 → (B → Bytes spec) → ContextShort c.context → Every B TriedIf (upwards G spec ds c)
  unfolding upwards
  every_upwards spec [] c l k s = every_giving c _ s (λ _. missing_fits spec (omega arith))
  every_upwards spec (d ∷ ds) c l k s =
      every_bind B Fit TriedIf (under G d (text "node_modules")) _ (every_under G B d _) (λ nm f.
      every_bind B Any TriedIf (is_dir nm) _ (every_is_dir B nm f) (λ b _.
      every_in_folder nm _ _ c (upwards G spec ds c) b (dot_short 2048 (package_subpath spec) (subpath_short 2048 spec l)) (λ x. bytes_subpath spec (k x)) s (every_upwards spec ds c l k s)))

  -- a target that was substituted
  abbrev TargetBytes : Target → Type 0
  TargetBytes (target t) = Bytes t
  TargetBytes directory_error = Unit {0}

  target_if : (u : Bool) (s t : Target) → TargetBytes s → TargetBytes t → TargetBytes (if u then s else t)
  target_if true s t h k = h
  target_if false s t h k = k

  target_bytes : (key t : Text) (m : Option Text) → Bytes t → PartBytes m → TargetBytes (normalize_string_target key t m)
  unfolding normalize_string_target
  target_bytes key t none h k = h
  target_bytes key t (some m) h k =
      target_if (contains star key || contains star t) _ _ (bytes_replace star m t k h) (target_if (ends_with (text "/") key && ends_with (text "/") t) _ _ (bytes_append t m h k) tt)

  module _ (q : Request) (r : B → RequestShort q) (m : B → PartBytes q.matched) where
    every_package_target : (t : Target) (c : Pending) → (B → TargetBytes t) → ContextShort c.context → Every B TriedIf (package_target G q t c)
    unfolding package_target PACKAGE_RESOLVE
    every_package_target directory_error c k s = every_giving c _ s (config_if B q r)
    every_package_target (target t) c k s =
        every_if B TriedIf (ltb 2048 (length t)) _ _ (λ _. tt) (λ e. every_upwards t (dirs q.package_url) c (let l = ltb-false 2048 (length t) e in omega arith) k s)

    every_bare_target : (a : ℕ) (path : Text) (c : Pending) → Bytes path → length path ≤ 2048 → ContextShort c.context → Every B TriedIf (bare_target G a q path c)
    unfolding bare_target
    every_bare_target zero path c k l s = every_giving c _ s (invalid_if B q r path l)
    every_bare_target (suc a) path c k l s =
        every_if B TriedIf (starts_with (text "../") path || starts_with (text "/") path) _ _ (λ _. every_giving c _ s (invalid_if B q r path l))
        (λ _. every_package_target _ c (λ b. target_bytes q.key path q.matched k (m b)) s)

    every_string_target : (a : ℕ) (s : Specifier) (t : Text) (c : Pending) → SmallBytes t → ParsedFits 1024 s → ContextShort c.context → Every B TriedIf (string_target G a q s t c)
    unfolding string_target
    every_string_target a empty_specifier t c x p h = every_giving c _ h (λ _. empty_fits t (omega (arith, x.0)))
    every_string_target a (parsed path query fragment) t c x p h =
        let d : Pending = record { context = with_query_fragment c.context query fragment; depth = c.depth } in
        let s : ContextShort d.context = context_short c.context query fragment h (omega (arith, p.1.0)) (omega (arith, p.1.1)) in
        every_if B TriedIf (starts_with (text "./") path) _ _ (λ _. every_giving d _ s (path_if B q r (normalize_string_target q.key path q.matched)))
        (λ _. every_bare_target a path d p.0.0 (omega (arith, p.0.1)) s)

  every_or_go_on : (k : Pending → Look Tried) → ((d : Pending) → ContextShort d.context → Every B TriedIf (k d)) → (c : Pending) (o : Outcome) → ContextShort c.context → OutcomeIf B o
      → Every B TriedIf (or_go_on_by imports_way k c o)
  every_or_go_on k h c (Outcome.found p) s f = every_giving c _ s f
  every_or_go_on k h c Outcome.nothing s f = h c s
  every_or_go_on k h c (Outcome.failed e) s f = every_giving c _ s f
  every_or_go_on k h c Outcome.overlong s f = every_giving c _ s tt

  every_or_next : (js : Elements) (k : Pending → Look Tried) → ((d : Pending) → ContextShort d.context → Every B TriedIf (k d)) → (c : Pending) (o : Outcome) → ContextShort c.context → OutcomeIf B o
      → Every B TriedIf (or_next_by imports_way js k c o)
  every_or_next js k h c (Outcome.found p) s f = every_giving c _ s f
  every_or_next js k h c Outcome.nothing s f = h c s
  every_or_next no_element k h c (Outcome.failed e) s f = every_if B TriedIf (is_not_found e) _ _ (λ _. h c s) (λ _. every_giving c _ s f)
  every_or_next (element j js) k h c (Outcome.failed e) s f = h c s
  every_or_next js k h c Outcome.overlong s f = every_giving c _ s tt

  module _ (a : ℕ) (q : Request) (r : B → RequestShort q) (m : B → PartBytes q.matched) where
    mutual
      unfolding target_by on_string Strings

      every_by : (j : Json) (c : Pending) → Strings SmallBytes j → ContextShort c.context → Every B TriedIf (target_by imports_way (on_string G a) q j c)
      every_by scalar c x h = every_giving c _ h tt
      every_by (str s) c x h = every_string_target q r m a (parse_specifier s) s c x (parsed_fits 1024 s x.0 x.1) h
      every_by (arr js) c x h = every_if B TriedIf (is_empty js) _ _ (λ _. every_giving c _ h (empty_if B q r)) (λ _. every_elements js c x h)
      every_by (obj ms) c x h = every_conditions ms c x h

      every_conditions : (ms : Members) (c : Pending) → StringsOf SmallBytes ms → ContextShort c.context → Every B TriedIf (condition_by imports_way (on_string G a) q ms c)
      every_conditions no_member c x h = every_giving c _ h tt
      every_conditions (member k j ms) c x h =
          every_if B TriedIf (equal k (text "default") || is_one_of q.conditions k) _ _
          (λ _. every_bind B TriedIf TriedIf (target_by imports_way (on_string G a) q j c) _ (every_by j c x.1.0 h) (λ z g.
          every_or_go_on (λ d. condition_by imports_way (on_string G a) q ms d) (λ d s. every_conditions ms d x.1.1 s) z.pending z.outcome g.0 g.1))
          (λ _. every_conditions ms c x.1.1 h)

      every_elements : (js : Elements) (c : Pending) → StringsIn SmallBytes js → ContextShort c.context → Every B TriedIf (element_by imports_way (on_string G a) q js c)
      every_elements no_element c x h = every_giving c _ h tt
      every_elements (element j js) c x h =
          every_bind B TriedIf TriedIf (target_by imports_way (on_string G a) q j c) _ (every_by j c x.0 h) (λ z g.
          every_or_next js (λ d. element_by imports_way (on_string G a) q js d) (λ d s. every_elements js d x.1 s) z.pending z.outcome g.0 g.1)

  module _ (spec : Text) (named : B → (length spec ≤ 512) × Bytes spec) where
    -- the part that the chosen key matched
    record PartOf (m : Option Text) : Type 0 where
      bytes : PartBytes m
      short : length (or_dot m) ≤ 4102

    part_none : PartOf none
    unfolding or_dot
    part_none = record { bytes = tt; short = omega arith }

    part_some : (s : Text) → length s ≤ 512 → Bytes s → PartOf (some s)
    unfolding or_dot
    part_some s l h = record { bytes = h; short = omega arith }

    part_if : (u : Bool) (s t : Option Text) → PartOf s → PartOf t → PartOf (if u then s else t)
    part_if true s t h k = h
    part_if false s t h k = k

    part_of : (k : Text) → B → PartOf (pattern_match spec k)
    unfolding pattern_match star_match
    part_of k b =
        let l : length spec ≤ 512 = (named b).0 in
        let h : Bytes spec = (named b).1 in
        let base = before star k in
        let trailer = after star k in
        part_if (not (is_subpath_key k)) _ _ part_none
        (part_if (contains star k) _ _
        (part_if (starts_with base spec && not (contains star trailer) && (equal trailer [] || (leb (length k) (length spec) && ends_with trailer spec))) _ _
        (part_some (take (length spec - length base - length trailer) (drop (length base) spec))
        (omega (arith, length-take (length spec - length base - length trailer) (drop (length base) spec), length-drop (length base) spec)) (bytes_take (length spec - length base - length trailer) (drop (length base) spec) (bytes_drop (length base) spec h))) part_none)
        (part_if (ends_with (text "/") k && starts_with k spec) _ _ (part_some (drop (length k) spec) (omega (arith, length-drop (length k) spec)) (bytes_drop (length k) spec h)) part_none))

    part_chosen : (s : Selected) → Chosen SmallBytes spec s → B → PartOf s.matched
    part_chosen s h b = by h.part
      where
        by : (s.matched ≡ none) ⊎ (s.matched ≡ pattern_match spec s.key) → PartOf s.matched
        by (inl e) = rw e part_none
        by (inr e) = rw e (part_of s.key b)

    every_selected : (dir : Text) (o : Option Selected) → length dir ≤ 2048 → OptionHas (Chosen SmallBytes spec) o → Every B TriedIf (PACKAGE_IMPORTS_EXPORTS_RESOLVE G dir o start)
    unfolding PACKAGE_IMPORTS_EXPORTS_RESOLVE PACKAGE_TARGET_RESOLVE start
    every_selected dir none l x = every_giving _ _ fresh_short tt
    every_selected dir (some s) l x =
        every_by 1 _ (λ b. record { url = l; key = x.key.0; part = (part_chosen s x b).short }) (λ b. (part_chosen s x b).bytes) s.target _ x.target fresh_short

    every_ends : (dir : Text) (t : Tried) → length dir ≤ 2048 → TriedIf t → Every B Any (ends G spec dir t)
    every_ends dir t l h = by t.pending t.outcome h.0 h.1
      where
        by : (c : Pending) (o : Outcome) → ContextShort c.context → OutcomeIf B o → Every B Any (ends G spec dir (record { pending = c; outcome = o }))
        by c (Outcome.found p) s f = unfold ends in (every_RESOLVE_ESM_MATCH G B spec _ (λ b. let x = (named b).0 in omega arith) (f, s))
        by c Outcome.nothing s f = unfold ends in ((λ b. (named_fits spec dir (named b).0 l).1), s)
        by c (Outcome.failed e) s f = unfold ends in (f, s)
        by c Outcome.overlong s f = unfold ends in tt

    every_by_imports : (s : Scope) → FairScope (some s) → Every B Any (by_imports G spec s)
    unfolding by_imports PACKAGE_IMPORTS_RESOLVE start
    every_by_imports s g =
        every_perhaps B s.manifest.imports _ (λ select e.
        every_never B _
        (every_bind B TriedIf Any (if equal spec (text "#") then giving start (Outcome.failed (InvalidModuleSpecifier spec (manifest_of s.dir))) else PACKAGE_IMPORTS_EXPORTS_RESOLVE G s.dir (select spec) start) _
        (every_if B TriedIf (equal spec (text "#")) _ _ (λ _. every_giving start _ fresh_short (λ b. (named_fits spec s.dir (named b).0 g.1).0))
        (λ _. every_selected s.dir (select spec) g.1 (g.0.leads select e spec)))
        (λ t h. every_ends s.dir t g.1 h)))

    every_require_hash : (dir : Text) → Fit dir → Every B Any (require_hash G dir spec)
    unfolding require_hash LOAD_PACKAGE_IMPORTS not_found
    every_require_hash dir f =
        every_seq B Any (nearest G (dirs dir) >>= λ s. perhaps s (by_imports G spec)) (end (not_found spec))
        (every_bind B FairScope Any (nearest G (dirs dir)) _ (every_nearest G B (dirs dir) (above_short G B dir f)) (λ o h. by o h))
        ((λ b. missing_fits spec (let x = (named b).0 in omega arith)), fresh_short)
      where
        by : (o : Option Scope) → FairScope o → Every B Any (perhaps o (by_imports G spec))
        by none h = unfold perhaps in tt
        by (some s) h = unfold perhaps in (every_by_imports s h)

    pub every_resolve : (dir : Text) → Fit dir → Every B Any (resolve G dir spec)
    unfolding resolve
    every_resolve dir f =
        every_if B Any (is_hash spec) (require_hash G dir spec) (lookup G dir spec) (λ _. every_require_hash dir f) (λ _. every_lookup G B dir spec (λ b. let x = (named b).0 in omega arith) f)

-- EVERY CONSULTED PATH has at most 2,048 bytes
pub all_paths_fit : (q : Question) → length q.start ≤ 1024 → AllFit (list_of q)
unfolding list_of lookup_of seen_by seen
all_paths_fit q h =
    let G = settings_of q.settings in
    within_fit (seen_by G q.listing) _ q.limit (resolve G q.start q.specifier)
    (every_log ⊥ Any (seen_by G q.listing) (λ p. fair_seen G (found_at q.listing p)) (resolve G q.start q.specifier) (every_resolve G ⊥ q.specifier (λ b. absurd b) q.start (omega arith)))

-- THE TEXTS OF AN ANSWER have at most 6,157 bytes together
end_texts_lem : (e : End) → EndIf (Unit {0}) e → bounds.EndFits e
unfolding end_texts joined
end_texts_lem (found w) h =
    record { short = omega (arith, h.0, h.1.0, h.1.1, length-append w.path (w.query ++ (w.fragment ++ [])), length-append w.query (w.fragment ++ []), length-append w.fragment []) }
end_texts_lem (stopped (failed f c)) h = record { short = h.0 tt }
end_texts_lem (stopped (refused r)) h = record { short = omega arith }

specifier_bytes : (s : Text) → is_specifier s ≡ true → Bytes s
unfolding is_specifier
specifier_bytes s h = utf8_bytes s (and_true (is_bare s && leb (length s) 512 && not (contains 0 s)) (is_utf8 s) h).1

pub every_end_fits : (q : Question) → length q.start ≤ 1024 → is_specifier q.specifier ≡ true → bounds.EndFits (end_of q)
unfolding end_of lookup_of seen_by seen
every_end_fits q l s = by (answer L (within (stopped (refused too_many)) q.limit t)) (within_either L (stopped (refused too_many)) q.limit t)
  where
    G : Settings
    G = settings_of q.settings

    L : Listing Sees
    L = seen_by G q.listing

    t : Look ⊥
    t = resolve G q.start q.specifier

    whole : Came (Unit {0}) Any (answer L t)
    whole = every_answer (Unit {0}) Any L (λ p. fair_seen G (found_at q.listing p)) t
        (every_resolve G (Unit {0}) q.specifier (λ _. (specifier_short q.specifier s, specifier_bytes q.specifier s)) q.start (omega arith))

    ended : (x : Step End ⊥) → Came (Unit {0}) Any x → bounds.EndFits (ending x)
    ended (go x) h = absurd x
    ended (stop e) h = unfold ending in (end_texts_lem e h)

    by : (x : Step End ⊥)
        → ((length (log L t) ≤ q.limit) × (x ≡ answer L t) × (log L (within (stopped (refused too_many)) q.limit t) ≡ log L t)) ⊎ ((q.limit < length (log L t)) × (x ≡ stop (stopped (refused too_many))))
        → bounds.EndFits (ending x)
    by x (inl h) = rw h.1 (ended (answer L t) whole)
    by x (inr h) = rw h.1 (ended (stop (stopped (refused too_many))) tt)

-- the start of a question whose checks pass
start_short : (q : Question) → accepted q.listing ≡ true → is_directory_of q.listing q.start ≡ true → length q.start ≤ 1024
unfolding accepted passes30 entry_at
start_short q a s =
    let l = q.listing in
    let p = (and_true (sizes_fit l) (all row_fits (rows l)) (and_true (passes30 l) (passes31 l) (and_true (passes30 l && passes31 l) (passes32 l) a).0).0).1 in
    low_row q.start (rows l) p (found_folder l q.start (folder_at l q.start s))

pub end_fits : (q : Question) → accepted q.listing ≡ true → is_directory_of q.listing q.start ≡ true → is_specifier q.specifier ≡ true → bounds.EndFits (end_of q)
end_fits q a s n = every_end_fits q (start_short q a s) n
