-- What a path under construction means: the first n of its 2,048 bytes, or refusal 42 where n is more.
use Rattle.std.specs.Prelude.{◌≡◌, ℕ, ◌+◌, ◌≤◌, List, Bool, true, false, take, leb, if◌then◌else◌}
use Rattle.definition.specs.Path.{Built, built, too_long}
use Rattle.laws.specs.PathLaws.{room}
use Rattle.path.specs.declared.PathBuf.{PathBuf}

unfoldable pub path_at : List ℕ → ℕ → Built
path_at bytes n = if leb n 2048 then built (take n bytes) else too_long

abbrev pub path_of : PathBuf → Built
path_of p = path_at p.bytes p.len

abbrev pub is_too_long : Built → Bool
is_too_long (built p) = false
is_too_long too_long = true

-- a path with room for n bytes more, and a slash before them
pub record Roomy (b : Built) (n : ℕ) : Type 0 where
  pub text : List ℕ
  pub is : b ≡ built text
  pub fits : room text + n ≤ 2048
