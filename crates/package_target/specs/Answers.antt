-- The request that a target is resolved for, and which answers let another target be tried.
use Rattle.std.specs.Prelude.{◌≡◌, Bool, true, false}
use Rattle.definition.specs.Exports.{Request}
use Rattle.definition.specs.Settings.{texts_of}
use Rattle.targets.specs.declared.Outcome.{Outcome}
use Rattle.targets.specs.declared.Outcome.TheVariants.{Found, Nothing, Empty, InvalidTarget, NotExportedMatch, NotExported, ConfigMixed, ConfigDirectory, OverLong}
use Rattle.targets.specs.Answers.{Asked}
use Rattle.package_target.specs.declared.Buffers.{Buffers}
use Rattle.package_target.specs.declared.Resolution.{Resolution}

-- a request, as far as it decides what a target gives, with the conditions of the settings
pub record Requested (q : Request) (r : Resolution) : Type 0 where
  pub asked : Asked q r.wanted
  pub conditions : q.conditions ≡ texts_of r.settings.now 0

-- the same two lent buffers
pub record SameBuffers (before after : Buffers) : Type 0 where
  pub work : after.work.ghost_name ≡ before.work.ghost_name
  pub path : after.path.ghost_name ≡ before.path.ghost_name

-- which answers let the next condition be tried
abbrev pub is_nothing : Outcome → Bool
is_nothing Found = false
is_nothing Nothing = true
is_nothing Empty = false
is_nothing InvalidTarget = false
is_nothing NotExportedMatch = false
is_nothing NotExported = false
is_nothing ConfigMixed = false
is_nothing ConfigDirectory = false
is_nothing OverLong = false

-- and which end an array
abbrev pub ends_array : Outcome → Bool
ends_array Found = true
ends_array Nothing = false
ends_array Empty = false
ends_array InvalidTarget = false
ends_array NotExportedMatch = false
ends_array NotExported = false
ends_array ConfigMixed = false
ends_array ConfigDirectory = false
ends_array OverLong = true
