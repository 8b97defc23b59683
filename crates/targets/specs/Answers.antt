-- What the answers of a resolution mean.
use Rattle.std.specs.Prelude.{◌≡◌, ℕ, true, false, List, [], if◌then◌else◌}
use Rattle.std.proofs.Math.Option.{Option, none, some}
use Rattle.definition.specs.Text.{text, star, contains, starts_with, ends_with}
use Rattle.definition.specs.Path.{Built, built, too_long, manifest_of}
use Rattle.definition.specs.Exports as exports
use Rattle.definition.specs.Exports.{Request, found, nothing, failed, overlong, InvalidPackageTarget, InvalidPackageConfig, InvalidPackageConfigDirectory, normalize_string_target, target_path, invalid_target, path_not_exported, or_dot}
use Rattle.path.specs.declared.PathBuf.{PathBuf}
use Rattle.path.specs.Meaning.{path_of, is_too_long}
use Rattle.targets.specs.declared.Context.{Context}
use Rattle.targets.specs.declared.Form.{Form}
use Rattle.targets.specs.declared.Form.TheVariants.{Plain, Starred, Folder}
use Rattle.targets.specs.declared.Outcome.{Outcome}
use Rattle.targets.specs.declared.Outcome.TheVariants.{Found, Nothing, Empty, InvalidTarget, NotExportedMatch, NotExported, ConfigMixed, ConfigDirectory, OverLong}
use Rattle.targets.specs.declared.Answer.{Answer}
use Rattle.targets.specs.declared.Wanted.{Wanted}
use Rattle.targets.specs.Contexts.{context_of}

-- an outcome for a package's directory, the key that led to the target and the pattern match; t is the path, or the
-- target that a failure speaks of
abbrev pub outcome_in : (url key : List ℕ) → Option (List ℕ) → Outcome → (t : List ℕ) → exports.Outcome
outcome_in url key matched Found t = found t
outcome_in url key matched Nothing t = nothing
outcome_in url key matched Empty t = failed (exports.Empty t)
outcome_in url key matched InvalidTarget t = failed (InvalidPackageTarget t key (manifest_of url))
outcome_in url key matched NotExportedMatch t = path_not_exported (or_dot matched) url
outcome_in url key matched NotExported t = path_not_exported key url
outcome_in url key matched ConfigMixed t = failed (InvalidPackageConfig (manifest_of url))
outcome_in url key matched ConfigDirectory t = failed (InvalidPackageConfigDirectory (manifest_of url))
outcome_in url key matched OverLong t = overlong

abbrev pub resolved : (m : List ℕ) → Context → exports.Outcome → exports.Resolved
resolved m c o = record { context = context_of m c; outcome = o }

-- the text of a path; an over-long one has none
abbrev pub text_in : Built → List ℕ
text_in (built t) = t
text_in too_long = []

-- where an outcome has a text, the lent path is not over-long
abbrev pub Texted : PathBuf → Outcome → Type 0
Texted p Found = is_too_long (path_of p) ≡ false
Texted p Nothing = Unit {0}
Texted p Empty = is_too_long (path_of p) ≡ false
Texted p InvalidTarget = is_too_long (path_of p) ≡ false
Texted p NotExportedMatch = Unit {0}
Texted p NotExported = Unit {0}
Texted p ConfigMixed = Unit {0}
Texted p ConfigDirectory = Unit {0}
Texted p OverLong = Unit {0}

-- an outcome of a request, and an answer, whose text is in the lent path
abbrev pub outcome_at : Request → PathBuf → Outcome → exports.Outcome
outcome_at q path o = outcome_in q.package_url q.key q.matched o (text_in (path_of path))

abbrev pub answer_of : (m : List ℕ) → Request → PathBuf → Answer → exports.Resolved
answer_of m q path r = resolved m r.context (outcome_at q path r.outcome)

-- the path of a target, its query and its fragment cut off
abbrev pub path_target : Request → List ℕ → exports.Outcome
path_target q t =
    if starts_with (text "./") t then target_path q (normalize_string_target q.key t q.matched) else invalid_target q t

-- a request, as far as it decides what a target gives
abbrev pub Formed : Request → Form → (pattern : List ℕ) → Type 0
Formed q Plain p = q.matched ≡ none
Formed q Starred p = (q.matched ≡ some p) × (contains star q.key ≡ true)
Formed q Folder p = (q.matched ≡ some p) × (contains star q.key ≡ false) × (ends_with (text "/") q.key ≡ true)

pub record Asked (q : Request) (w : Wanted) : Type 0 where
  pub directory : q.package_url ≡ w.url.now
  pub formed : Formed q w.form w.pattern.now
