-- What the functions up to LOAD_AS_DIRECTORY give back, and the steps of the definition that one of them does together.
use Rattle.std.specs.Prelude.{◌≡◌, [], ◌++◌}
use Rattle.std.proofs.Math.Option.{Option, none, some}
use Rattle.definition.specs.Text.{Text, overwrite}
use Rattle.definition.specs.Path.{Built, built, too_long, manifest_of}
use Rattle.definition.specs.Json.{Json}
use Rattle.definition.specs.Settings.{Settings}
use Rattle.definition.specs.Ask.{ret, ◌>>=◌, ◌>>◌}
use Rattle.definition.specs.Manifest as definition
use Rattle.definition.specs.Manifest.{Place, manifest_view, if_text, field}
use Rattle.definition.specs.Walk as walk
use Rattle.definition.specs.Walk.{Look, perhaps, for_each, is_dir, when, sound, load_main, LOAD_INDEX, LOAD_AS_DIRECTORY}
use Rattle.std.specs.Prelude.{Some, None}
use Rattle.std.specs.declared.option.Option as held
use Rattle.std.specs.declared.ops.ControlFlow.{ControlFlow}
use Rattle.std.specs.declared.ops.ControlFlow.TheVariants.{Continue, Break}
use Rattle.refusal.specs.declared.Refusal.TheVariants.{PathTooLong}
use Rattle.consults.specs.declared.Case.{Case}
use Rattle.consults.specs.declared.Case.TheVariants.{Refused}
use Rattle.consults.specs.declared.Ending.{Ending}
use Rattle.consults.specs.Tape.{Tape}
use Rattle.consults.specs.Meaning.{ended_as, with_result}
use Rattle.directory.specs.declared.package.Package.{Package}
use Rattle.directory.specs.Roots.{json_of}
use Rattle.manifests.specs.Meaning.{Sought}

-- an ending with a case and three texts, which were written to the result text
pub record Finishes (k : Case) (a b c : Text) (r : Ending) (t u : Tape) : Type 0 where
  pub ending : r ≡ ended_as k a b c
  pub texts : u ≡ with_result t (overwrite 0 (a ++ (b ++ c)) t.result)

-- the same with a path that was built, or the refusal of one that is over-long
abbrev pub FinishesIn : Case → Built → Ending → Tape → Tape → Type 0
FinishesIn k (built p) r t u = Finishes k p [] [] r t u
FinishesIn k too_long r t u = (r ≡ ended_as (Refused PathTooLong) [] [] []) × (u ≡ t)

-- The nearest manifest, judged: the definition's `nearest` is `seek`, and this where one was found
unfoldable pub judged : Sought → Look (Option walk.Scope)
judged x = do
  m ← sound (manifest_of x.dir) x.sees
  ret (some (record { dir = x.dir; manifest = m }))

-- a package as a scope, and by its manifest alone
abbrev pub scope_in : Settings → Package → walk.Scope
scope_in G p = record { dir = p.dir.now; manifest = manifest_view G (json_of p.manifest.now) }

abbrev pub judged_of : Settings → Package → Option walk.Scope
judged_of G p = some (scope_in G p)

abbrev pub scope_of : Settings → held.Option Package → Option walk.Scope
scope_of G None = none
scope_of G (Some p) = some (scope_in G p)

abbrev pub own_of : Settings → held.Option Package → Option definition.Manifest
own_of G None = none
own_of G (Some p) = some (manifest_view G (json_of p.manifest.now))

-- a directory's own manifest is in it
abbrev pub Here : Text → ControlFlow Ending (held.Option Package) → Type 0
Here dir (Break x) = Unit {0}
Here dir (Continue None) = Unit {0}
Here dir (Continue (Some p)) = p.dir.now ≡ dir

-- LOAD_AS_DIRECTORY with one main field
unfoldable pub main_field : Settings → Place → Json → Text → Look (Unit {0})
main_field G w j f = perhaps (if_text (field j f)) (load_main G w)

-- with a manifest
unfoldable pub by_manifest : Settings → Place → Json → Look (Unit {0})
by_manifest G w j = do
  for_each G.main_fields (main_field G w j)
  LOAD_INDEX G w

unfoldable pub if_directory : Settings → Place → Look (Unit {0})
if_directory G w = do
  b ← is_dir w.path
  when b (LOAD_AS_DIRECTORY G w)
