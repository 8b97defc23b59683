-- What the code finds out of the keys of an object, and how an exports field was resolved.
use Rattle.std.specs.Prelude.{◌≡◌, ℕ, Bool, true, false, not, ◌||◌, List, [], drop, take, Option as Answer, Some, None}
use Rattle.std.specs.declared.ops.ControlFlow.{ControlFlow}
use Rattle.std.specs.declared.ops.ControlFlow.TheVariants.{Continue, Break}
use Rattle.std.proofs.Math.Option.{Option, none, some}
use Rattle.definition.specs.Text.{text}
use Rattle.definition.specs.Json.{Json, scalar, str, arr, obj, got, quoted}
use Rattle.definition.specs.Exports as exports
use Rattle.definition.specs.Exports.{Entry, any_key, is_dot_key, is_subpath_key, pattern_match, Request, path_not_exported}
use Rattle.package_target.specs.Places.{Stands}
use Rattle.targets.specs.declared.Context.{Context}
use Rattle.targets.specs.declared.Span.{Span}
use Rattle.targets.specs.declared.Form.{Form}
use Rattle.targets.specs.declared.Form.TheVariants.{Starred, Folder}
use Rattle.exports.specs.declared.KeyMarks.{KeyMarks}
use Rattle.exports.specs.declared.Best.{Best}
use Rattle.exports.specs.declared.Key.{Key}
use Rattle.exports.specs.declared.Key.TheVariants.{Dot, Subpath, At}
use Rattle.exports.specs.declared.Member.{Member}
use Rattle.exports.specs.declared.Resolved.{Resolved}
use Rattle.targets.specs.Keys.{rank_of, match_of}
use Rattle.targets.specs.Contexts.{string_at, context_of}
use Rattle.targets.specs.Answers.{outcome_in, text_in, Texted, Formed}
use Rattle.path.specs.declared.PathBuf.{PathBuf}
use Rattle.path.specs.Meaning.{path_of}

-- a member's value was looked for
abbrev pub Finds : List ℕ → ℕ → Option Json → Answer ℕ → Type 0
Finds m d (some j) (Some i) = Stands m d i j
Finds m d (some j) None = ⊥
Finds m d none (Some i) = ⊥
Finds m d none None = Unit {0}

-- what one key begins with, and the keys of some members
abbrev pub a_key : List ℕ → KeyMarks
a_key k = record { dot = is_dot_key k; other = not (is_dot_key k); subpath = is_subpath_key k }

abbrev pub joined_keys : KeyMarks → KeyMarks → KeyMarks
joined_keys a b = record { dot = a.dot || b.dot; other = a.other || b.other; subpath = a.subpath || b.subpath }

abbrev pub keys_of : List Entry → KeyMarks
keys_of es = record {
  dot = any_key is_dot_key es;
  other = any_key (λ k. not (is_dot_key k)) es;
  subpath = any_key is_subpath_key es;
}

-- the key of the best entry of a manifest so far, for a match key
pub record Chosen (m mk : List ℕ) (b : Best) (e : Entry) : Type 0 where
  pub ranked : b.rank ≡ rank_of e.key
  pub behind : List ℕ
  pub named : quoted (drop b.key m) ≡ got e.key behind
  pub matched : pattern_match mk e.key ≡ some (take b.matched.len (drop b.matched.start mk))

abbrev pub BestOf : (m mk : List ℕ) → Answer Best → Option Entry → Type 0
BestOf m mk None none = Unit {0}
BestOf m mk None (some e) = ⊥
BestOf m mk (Some b) none = ⊥
BestOf m mk (Some b) (some e) = Chosen m mk b e

abbrev pub form_of : Bool → Form
form_of true = Starred
form_of false = Folder

-- the text of the key
abbrev pub key_text : (m subpath : List ℕ) → Key → List ℕ
key_text m subpath Dot = text "."
key_text m subpath Subpath = subpath
key_text m subpath (At i) = string_at m i

-- THE MEMBER OF A MAP THAT APPLIES to a match key mk, of a map in a manifest m

-- the part of the match key that matched, or, for a literal key, all of it
abbrev pub part_of : (mk : List ℕ) → Answer Span → List ℕ
part_of mk (Some part) = take part.len (drop part.start mk)
part_of mk None = mk

-- the request for its target
abbrev pub request_for : (url : List ℕ) → List (List ℕ) → exports.Selected → Request
request_for url conditions s =
    record { package_url = url; key = s.key; matched = s.matched; conditions = conditions }

pub record Applies (m mk : List ℕ) (r : Member) (s : exports.Selected) : Type 0 where
  pub named : key_text m mk r.key ≡ s.key
  pub matched : match_of mk r.matched ≡ s.matched
  pub there : Stands m 14 r.value s.target
  pub formed : (url : List ℕ) (cs : List (List ℕ)) → Formed (request_for url cs s) r.form (part_of mk r.matched)

-- what was selected is that member, or there is none
abbrev pub Selects : (m mk : List ℕ) → Answer Member → Option exports.Selected → Type 0
Selects m mk None none = Unit {0}
Selects m mk None (some s) = ⊥
Selects m mk (Some r) none = ⊥
Selects m mk (Some r) (some s) = Applies m mk r s

-- how an exports field was resolved
abbrev pub resolved_of : (m url subpath : List ℕ) → PathBuf → Resolved → exports.Resolved
resolved_of m url subpath path r =
    record {
      context = context_of m r.answer.context;
      outcome =
          outcome_in url (key_text m subpath r.key) (match_of subpath r.matched) r.answer.outcome
          (text_in (path_of path));
    }

-- a part of the algorithm ended, or it goes on with the context
abbrev pub went_on : (m url subpath : List ℕ) → PathBuf → ControlFlow Resolved Context
    → (exports.Context → exports.Resolved) → exports.Resolved
went_on m url subpath path (Break r) go = resolved_of m url subpath path r
went_on m url subpath path (Continue c) go = go (context_of m c)

-- where it ended with a text, the lent path is not over-long
abbrev pub EndTexted : PathBuf → ControlFlow Resolved Context → Type 0
EndTexted path (Break r) = Texted path r.answer.outcome
EndTexted path (Continue c) = Unit {0}

-- no query and no fragment yet
abbrev pub fresh : exports.Context
fresh = record { query = []; fragment = [] }

-- the request for the main export
abbrev pub dot_request : (url : List ℕ) → List (List ℕ) → Request
dot_request url conditions = record { package_url = url; key = text "."; matched = none; conditions = conditions }

-- the last step of `PACKAGE_EXPORTS_RESOLVE`
abbrev pub not_exported : (url subpath : List ℕ) → exports.Context → exports.Resolved
not_exported url subpath c = record { context = c; outcome = path_not_exported subpath url }

-- a string or an array
abbrev pub IsWhole : Json → Type 0
IsWhole scalar = ⊥
IsWhole (str s) = Unit {0}
IsWhole (arr js) = Unit {0}
IsWhole (obj ms) = ⊥
