-- The steps of LOAD_PACKAGE_EXPORTS that one function does together, and what it and LOAD_PACKAGE_SELF refuse.
use Rattle.std.proofs.Math.Option.{Option}
use Rattle.std.specs.Prelude.{ℕ}
use Rattle.definition.specs.Text.{Text}
use Rattle.definition.specs.Json.{Json}
use Rattle.definition.specs.Settings.{Settings}
use Rattle.definition.specs.Ask.{◌>>=◌}
use Rattle.definition.specs.Manifest.{resolve_exports}
use Rattle.definition.specs.Walk.{Look, given, never, RESOLVE_ESM_MATCH}
use Rattle.refusal.specs.declared.Refusal.{Refusal}
use Rattle.refusal.specs.declared.Refusal.TheVariants.{Specifier}
use Rattle.directory.specs.Refusals.{room_in, or_longer}

unfoldable pub match_exports : Settings → (spec dir subpath : Text) → Json → Look (Unit {0})
match_exports G spec dir subpath j = do
  w ← given (resolve_exports G j dir subpath)
  never (RESOLVE_ESM_MATCH G spec w)

-- the work memory is too short, or else a text has more than 512 bytes
abbrev pub room_for : (work text : ℕ) → Option Refusal
room_for w n = or_longer Specifier 512 n (room_in w)
