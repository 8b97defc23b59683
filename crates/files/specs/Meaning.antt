-- The steps of the definition that a function of `files` does together.
use Rattle.definition.specs.Text.{Text}
use Rattle.definition.specs.Settings.{Settings}
use Rattle.definition.specs.Manifest.{Place}
use Rattle.definition.specs.Walk.{Look, for_each, try_index}

-- LOAD_INDEX with one main file
unfoldable pub load_main_file : Settings → Place → Text → Look (Unit {0})
load_main_file G w f = for_each G.extensions (try_index G w f)
