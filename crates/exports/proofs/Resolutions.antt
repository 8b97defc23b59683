-- Keys, the main export, and the exports field as a whole.
use mathlib.Core.Path.{◌≡◌, refl, sym, ◌∙◌, ap}
use mathlib.Core.Bool.{Bool, true, false, not, ◌&&◌}
use mathlib.Core.List.{List, []}
use mathlib.Core.Option.{Option, none, some}
use Prim.Native.Nat.{ℕ}
use native.Mathlib.Omega.{arith}
use Rattle.std.specs.Prelude.{if◌then◌else◌}
use Rattle.definition.specs.Text.{text, equal}
use Rattle.definition.specs.Path.{manifest_of}
use Rattle.definition.specs.Json.{Json, scalar, str, arr, obj, Members}
use Rattle.definition.specs.Exports as exports
use Rattle.definition.specs.Exports.{Request, failed, InvalidPackageConfig, or_go_on, path_not_exported, Entry, entries, get, any_key, is_dot_key, is_subpath_key, select, selected_resolve, PACKAGE_TARGET_RESOLVE, PACKAGE_IMPORTS_EXPORTS_RESOLVE, is_mixed, dot_or, main_export, main_resolve, key_resolve, PACKAGE_EXPORTS_RESOLVE}
use Rattle.package_target.specs.Places.{kind_of}
use Rattle.package_json.specs.declared.Kind.TheVariants.{Scalar}
use Rattle.targets.specs.declared.Context.{Context}
use Rattle.targets.specs.declared.Outcome.{Outcome}
use Rattle.targets.specs.declared.Answer.{Answer}
use Rattle.exports.specs.declared.Member.{Member}
use Rattle.exports.specs.declared.Key.TheVariants.{Subpath}
use Rattle.exports.specs.declared.Resolved.{Resolved}
use Rattle.targets.specs.Keys.{match_of}
use Rattle.targets.specs.Contexts.{context_of}
use Rattle.targets.specs.Answers.{outcome_in, text_in, resolved, answer_of}
use Rattle.path.specs.declared.PathBuf.{PathBuf}
use Rattle.path.specs.Meaning.{path_of}
use Rattle.package_target.specs.Answers.{is_nothing}
use Rattle.exports.specs.Chosen.{key_text, request_for, Applies, resolved_of, dot_request, not_exported, IsWhole}
use Rattle.package_target.proofs.Loops.{nothing_yet, go_stop}

-- an end that speaks of the subpath
pub subpath_is : (m url subpath : List ℕ) (path : PathBuf) (r : Resolved) (c : Context) (o : Outcome)
    → (r.answer.context ≡ c) × (r.answer.outcome ≡ o) × (r.key ≡ Subpath)
    → resolved_of m url subpath path r
    ≡ resolved m c (outcome_in url subpath (match_of subpath r.matched) o (text_in (path_of path)))
subpath_is m url subpath path r c o e = rw (e.0, e.1, e.2)

-- `PACKAGE_IMPORTS_EXPORTS_RESOLVE`
module _ (url : List ℕ) (conds : List (List ℕ)) (mk : List ℕ) (es : List Entry) (c : exports.Context) where
  pub imports_none : select mk es ≡ none → nothing_yet c ≡ PACKAGE_IMPORTS_EXPORTS_RESOLVE url conds mk es c
  unfolding PACKAGE_IMPORTS_EXPORTS_RESOLVE selected_resolve
  imports_none e = rw e

  pub imports_some : (s : exports.Selected) → select mk es ≡ some s
      → PACKAGE_TARGET_RESOLVE (request_for url conds s) s.target c ≡ PACKAGE_IMPORTS_EXPORTS_RESOLVE url conds mk es c
  unfolding PACKAGE_IMPORTS_EXPORTS_RESOLVE selected_resolve
  imports_some s e = rw e

-- the answer for its target names the member's key, and what matched it
pub applied : {m mk : List ℕ} {k : Member} {s : exports.Selected} → Applies m mk k s
    → (url : List ℕ) (conds : List (List ℕ)) (path : PathBuf) (a : Answer)
    → resolved_of m url mk path (record { answer = a; key = k.key; matched = k.matched })
    ≡ answer_of m (request_for url conds s) path a
applied {m} {mk} {k} {s} h url conds path a =
    ap (λ x. resolved m a.context (outcome_in url x (match_of mk k.matched) a.outcome (text_in (path_of path)))) h.named
    ∙ ap (λ x. resolved m a.context (outcome_in url s.key x a.outcome (text_in (path_of path)))) h.matched

-- an answer other than nothing ends the algorithm
pub ended : (m url subpath : List ℕ) (path : PathBuf) (r : Resolved) (go : exports.Context → exports.Resolved)
    → is_nothing r.answer.outcome ≡ false
    → resolved_of m url subpath path r ≡ or_go_on (resolved_of m url subpath path r) go
ended m url subpath path r go h =
    let q : Request = record {
      package_url = url;
      key = key_text m subpath r.key;
      matched = match_of subpath r.matched;
      conditions = [];
    } in
    sym (go_stop q (context_of m r.answer.context) (text_in (path_of path)) r.answer.outcome go h)

module _ (url : List ℕ) (conds : List (List ℕ)) (ms : Members) (c : exports.Context) where
  pub main_dot : (j : Json) → get (text ".") (entries ms) ≡ some j
      → PACKAGE_TARGET_RESOLVE (dot_request url conds) j c ≡ main_resolve url conds (main_export (obj ms)) c
  unfolding main_resolve main_export dot_or
  main_dot j e = rw e

  module _ (e : get (text ".") (entries ms) ≡ none) where
    pub main_none : any_key is_subpath_key (entries ms) ≡ true
        → nothing_yet c ≡ main_resolve url conds (main_export (obj ms)) c
    unfolding main_resolve main_export dot_or
    main_none h = rw (e, h)

    pub main_whole : any_key is_subpath_key (entries ms) ≡ false
        → PACKAGE_TARGET_RESOLVE (dot_request url conds) (obj ms) c ≡ main_resolve url conds (main_export (obj ms)) c
    unfolding main_resolve main_export dot_or
    main_whole h = rw (e, h)

-- `PACKAGE_EXPORTS_RESOLVE`
module _ (url : List ℕ) (conds : List (List ℕ)) (subpath : List ℕ) (c : exports.Context) where
  -- the main export, for "." alone
  module _ (o : Option Json) (go : exports.Context → exports.Resolved) where
    abbrev main_part : exports.Resolved
    main_part = or_go_on (main_resolve url conds (if equal subpath (text ".") then o else none) c) go

    pub main_off : equal subpath (text ".") ≡ false → go c ≡ main_part
    unfolding main_resolve
    main_off h = rw h

    pub main_on : equal subpath (text ".") ≡ true → (x : exports.Resolved) → x ≡ main_resolve url conds o c
        → or_go_on x go ≡ main_part
    main_on h x e = rw h (ap (λ y. or_go_on y go) e)

  pub exports_scalar : (j : Json) → Scalar ≡ kind_of j
      → not_exported url subpath c ≡ PACKAGE_EXPORTS_RESOLVE url conds subpath j c
  unfolding PACKAGE_EXPORTS_RESOLVE is_mixed main_export main_resolve key_resolve
  exports_scalar scalar e = go (equal subpath (text "."))
    where
      go : (b : Bool) → not_exported url subpath c
          ≡ or_go_on (main_resolve url conds (if b then none else none) c) (not_exported url subpath)
      go true = refl
      go false = refl
  exports_scalar (str s) e = absurd (let z : ◌≡◌ {A = ℕ} 0 1 = cc in omega arith)
  exports_scalar (arr js) e = absurd (let z : ◌≡◌ {A = ℕ} 0 1 = cc in omega arith)
  exports_scalar (obj ms) e = absurd (let z : ◌≡◌ {A = ℕ} 0 1 = cc in omega arith)

  -- a string or an array
  pub whole_other : (j : Json) → IsWhole j → equal subpath (text ".") ≡ false
      → not_exported url subpath c ≡ PACKAGE_EXPORTS_RESOLVE url conds subpath j c
  unfolding PACKAGE_EXPORTS_RESOLVE is_mixed main_export main_resolve key_resolve
  whole_other scalar w e = absurd w
  whole_other (str s) w e = rw e
  whole_other (arr js) w e = rw e
  whole_other (obj ms) w e = absurd w

  pub whole_main : (j : Json) → IsWhole j → equal subpath (text ".") ≡ true
      → or_go_on (PACKAGE_TARGET_RESOLVE (dot_request url conds) j c)
      (not_exported url subpath) ≡ PACKAGE_EXPORTS_RESOLVE url conds subpath j c
  unfolding PACKAGE_EXPORTS_RESOLVE is_mixed main_export main_resolve key_resolve
  whole_main scalar w e = absurd w
  whole_main (str s) w e = rw e
  whole_main (arr js) w e = rw e
  whole_main (obj ms) w e = absurd w

  -- an object: its main export, and then its keys
  module _ (ms : Members) where
    pub object_mixed : (any_key is_dot_key (entries ms) && any_key (λ k. not (is_dot_key k)) (entries ms)) ≡ true
        → record { context = c; outcome = failed (InvalidPackageConfig (manifest_of url)) }
        ≡ PACKAGE_EXPORTS_RESOLVE url conds subpath (obj ms) c
    unfolding PACKAGE_EXPORTS_RESOLVE is_mixed
    object_mixed h = rw h

    abbrev pub then_keys : exports.Context → exports.Resolved
    then_keys d = or_go_on (PACKAGE_IMPORTS_EXPORTS_RESOLVE url conds subpath (entries ms) d) (not_exported url subpath)

    pub object_is : (any_key is_dot_key (entries ms) && any_key (λ k. not (is_dot_key k)) (entries ms)) ≡ false
        → or_go_on
        (main_resolve url conds (if equal subpath (text ".") then main_export (obj ms) else none) c) then_keys
        ≡ PACKAGE_EXPORTS_RESOLVE url conds subpath (obj ms) c
    unfolding PACKAGE_EXPORTS_RESOLVE is_mixed key_resolve
    object_is h = rw h
