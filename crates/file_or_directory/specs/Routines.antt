-- The steps of LOAD_NODE_MODULES, 2.b and c, that one function does together.
use Rattle.definition.specs.Text.{Text, text, equal, ends_with}
use Rattle.definition.specs.Settings.{Settings}
use Rattle.definition.specs.Ask.{◌>>=◌}
use Rattle.definition.specs.Walk.{Look, unless, is_dir, bare, LOAD_AS_FILE, as_directory}

-- 2.b: LOAD_AS_FILE at once, or not
unfoldable pub file_first : Settings → (spec name q : Text) → Look (Unit {0})
file_first G spec name q = unless (equal spec name) (unless (ends_with (text "/") spec) (LOAD_AS_FILE G (bare q)))

unfoldable pub directory_or_file : Settings → Text → Look (Unit {0})
directory_or_file G q = do
  b ← is_dir q
  as_directory G (bare q) b
