use Rattle.std.proofs.Math.Path.{◌≡◌}
use Prim.Native.Nat.{◌≤◌}
use Rattle.std.specs.Prelude.{◌⊎◌, length}
use Rattle.std.proofs.Math.Bool.{true, false}
use mathlib.Core.List.{[], ◌∷◌, ◌++◌}
use Rattle.definition.specs.Text.{Text, text, star, ends_with, contains}
use Rattle.definition.specs.Exports.{is_subpath_key}

-- A KEY MATCHES A SUBPATH. Both begin with "./" (or "#"). There are two kinds of such keys.
--
-- A star key has one "*": what stands before it is its base, what stands behind it its trailer. It matches the subpaths that are the base, some
-- part, and the trailer: "./lib/*.js" matches "./lib/steel.js", whose part is "steel". The part may hold "/". It may be empty only where the
-- trailer is: "./a*" matches "./a", and "./a*.js" does not match "./a.js".
--
-- A folder key ends in "/" and has no "*". It matches the subpaths that begin with it: "./lib/" matches "./lib/steel.js".
pub data Matches (subpath : Text) : Text → Type 0 where
  by_star : (base part trailer : Text) → is_subpath_key (base ++ star ∷ trailer) ≡ true → contains star base ≡ false → contains star trailer ≡ false
      → (trailer ≡ []) ⊎ (1 ≤ length part) → subpath ≡ base ++ (part ++ trailer) → Matches subpath (base ++ star ∷ trailer)
  by_folder : (key part : Text) → is_subpath_key key ≡ true → contains star key ≡ false → ends_with (text "/") key ≡ true → subpath ≡ key ++ part
      → Matches subpath key
