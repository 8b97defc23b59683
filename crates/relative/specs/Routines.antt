-- The steps of require(X) for a relative X that one function does together; p is Y + X.
use Rattle.std.specs.Prelude.{◌||◌}
use Rattle.definition.specs.Text.{Text, text, equal, ends_with}
use Rattle.definition.specs.Settings.{Settings}
use Rattle.definition.specs.Ask.{end, ◌>>=◌, ◌>>◌}
use Rattle.definition.specs.Walk.{Look, when, unless, is_dir, bare, not_found, LOAD_AS_FILE, LOAD_AS_DIRECTORY}

-- 3.a
unfoldable pub unless_folder : Settings → (x p : Text) → Look (Unit {0})
unless_folder G x p = unless (equal x (text ".") || ends_with (text "/") x) (LOAD_AS_FILE G (bare p))

-- 3.b and c
unfoldable pub directory_or_none : Settings → (x p : Text) → Look ⊥
directory_or_none G x p = do
  b ← is_dir p
  when b (LOAD_AS_DIRECTORY G (bare p))
  end (not_found x)
