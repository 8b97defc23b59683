-- The steps of the lookup that one function does together, and what the lookup refuses.
use Rattle.std.specs.Prelude.{◌⊎◌, ℕ, ◌<◌}
use Rattle.definition.specs.Text.{Text}
use Rattle.definition.specs.Specifier.{climbing}
use Rattle.definition.specs.Settings.{Settings}
use Rattle.definition.specs.Ask.{◌>>◌}
use Rattle.definition.specs.Walk.{Look, perhaps, LOAD_PACKAGE_SELF, LOAD_NODE_MODULES}

-- the lookup as far as "not found"
unfoldable pub load_package : Settings → (start spec : Text) → Look (Unit {0})
load_package G start spec = do
  LOAD_PACKAGE_SELF G start spec
  LOAD_NODE_MODULES G start spec
  perhaps (climbing spec) (LOAD_NODE_MODULES G start)

-- too little work memory, or too long a specifier
abbrev pub Refused : (work spec : ℕ) → Type 0
Refused work spec = (work < 1024) ⊎ (512 < spec)
