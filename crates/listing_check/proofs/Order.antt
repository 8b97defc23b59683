-- What the pass over the paths keeps: the first entry is "/", what was seen is in order, and the marks say which
-- prefixes of the last path
-- are directories.
use mathlib.Core.Path.{◌≡◌, sym, ◌∙◌}
use mathlib.Core.Bool.{Bool, true, false, ◌&&◌}
use mathlib.Core.List.{List, [], ◌∷◌}
use Prim.Native.Nat.{ℕ, ◌≤◌, ◌<◌}
use native.Mathlib.Omega.{arith}
use lib.ListN.{length, get_or}
use Rattle.definition.specs.Text.{Text, text, equal, all}
use Rattle.definition.specs.Listing.{Row, rows, first_is_root}
use Rattle.laws.specs.ListingSteps.{row, root_first, root_length, all_true}
use Rattle.laws.specs.ListingOrder.{sized, sized_short, Going, going_start, going_end, in_order}
use Rattle.listing_check.specs.Meaning.{Stepped}

-- the path before is the last seen, and the marks are its
pub record Kept (l : List ℕ) (before : Text) (mark : List ℕ) (rest : List Row) : Type 0 where
  pub short : length before ≤ 1024
  pub size : length mark ≡ 1025
  pub root : first_is_root (rows l) ≡ true
  pub sizes : all sized rest ≡ true
  pub going : Going (rows l) before rest mark

abbrev in_order_from : List Row → Bool
in_order_from rs = first_is_root rs && in_order rs

pub no_entry : (l : List ℕ) → rows l ≡ [] → false ≡ in_order_from (rows l)
unfolding first_is_root
no_entry l e = rw e

-- the first entry
module _ (l : List ℕ) {p : Text} {d : Bool} {s : List ℕ} {rest : List Row} (first : rows l ≡ row p d s ∷ rest)
    {b : Bool} (t : b ≡ equal p (text "/")) where
  is_root : first_is_root (rows l) ≡ (b && d)
  is_root = root_first first (sym t)

  pub not_root : b ≡ false → false ≡ in_order_from (rows l)
  not_root h = rw (is_root, h)

  pub not_directory : b ≡ true → d ≡ false → false ≡ in_order_from (rows l)
  not_directory h e = rw (is_root, h, e)

  pub kept_start : b ≡ true → d ≡ true → all sized (rows l) ≡ true → (m : List ℕ) → length m ≡ 1025 → get_or m 1 0 ≡ 1
      → ((i : ℕ) → 1 < i → get_or m i 0 ≡ 0)
      → Kept l p m rest
  kept_start h e z m size one more =
      let r : equal p (text "/") ≡ true = sym t ∙ h in
      record {
        short = omega (arith, root_length p r);
        size = size;
        root = rw (is_root, h, e);
        sizes = (all_true sized first z).1;
        going = going_start (rows l) p s rest m (rw e at first) r one more;
      }

-- the next entry
module _ {l : List ℕ} {before : Text} {m : List ℕ} {rest : List Row} (k : Kept l before m rest) where
  pub kept_end : rest ≡ [] → true ≡ in_order_from (rows l)
  kept_end h = rw (k.root, going_end _ _ _ _ k.going h)

  module _ {q : Text} {d : Bool} {s : List ℕ} {tail : List Row} (o : rest ≡ row q d s ∷ tail) where
    pub next_short : length q ≤ 1024
    next_short = sized_short _ _ _ (all_true sized o k.sizes).0

    module _ (m' : List ℕ) (b : Bool) (t : Stepped before q d m m' b) where
      pub kept_wrong : b ≡ false → false ≡ in_order_from (rows l)
      kept_wrong h = rw (k.root, (rw h at t) _ _ _ _ o k.going)

      pub kept_next : b ≡ true → Kept l q m' tail
      kept_next h =
          let g = rw h at t in
          record {
            short = next_short;
            size = g.0 ∙ k.size;
            root = k.root;
            sizes = (all_true sized o k.sizes).1;
            going = g.1 _ _ _ _ o k.going;
          }
