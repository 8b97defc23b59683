-- The checks before the lookup, one after the other in 01's order.
use mathlib.Core.Path.{◌≡◌, refl}
use mathlib.Core.Bool.{Bool, true, false}
use mathlib.Core.List.{List}
use mathlib.Core.Option.{Option, none, some}
use Prim.Native.Nat.{ℕ, ◌≤◌, ◌<◌}
use borrow.Author.Tests.{le-leb, lt-leb}
use Rattle.std.specs.Prelude.{if◌then◌else◌, Result, Ok, Err}
use Rattle.definition.specs.Specifier.{is_specifier}
use Rattle.definition.specs.Listing.{is_directory_of, passes30, passes31, passes32}
use Rattle.definition.specs.Settings.{passes24}
use Rattle.definition.specs.Called.{Question, Rooms, check, refusal_of}
use Rattle.refusal.specs.declared.Refusal.{Refusal}
use Rattle.refusal.specs.declared.Refusal.TheVariants.{Sizes, Order, ManifestDirectory}
use Rattle.refusal.specs.Numbers.{number_of}
use Rattle.listing_check.specs.Meaning.{verdict}

abbrev or_else : Result (Unit {0}) Refusal → Option ℕ → Option ℕ
or_else (Ok u) rest = rest
or_else (Err r) rest = some (number_of r)

by_verdict : (l : List ℕ) (rest : Option ℕ) → check (passes30 l) 30 (check (passes31 l) 31 (check (passes32 l) 32 rest)) ≡ or_else (verdict l) rest
unfolding verdict
by_verdict l rest = by (passes30 l) (passes31 l) (passes32 l)
  where
    by : (a b c : Bool) → check a 30 (check b 31 (check c 32 rest)) ≡ or_else (if a then if b then if c then Ok tt else Err ManifestDirectory else Err Order else Err Sizes) rest
    by false b c = refl
    by true false c = refl
    by true true false = refl
    by true true true = refl

module _ (q : Question) (m : Rooms) where
  pub by_work : m.work < 32768 → some 25 ≡ refusal_of q m
  unfolding refusal_of
  by_work h = rw (lt-leb 32768 m.work h)

  module _ (w : 32768 ≤ m.work) where
    pub by_settings : false ≡ passes24 q.settings → some 24 ≡ refusal_of q m
    unfolding refusal_of
    by_settings h = rw (le-leb 32768 m.work w, ← h)

    module _ (s : true ≡ passes24 q.settings) (o : Result (Unit {0}) Refusal) (v : o ≡ verdict q.listing) where
      pub by_listing : (r : Refusal) → o ≡ Err r → some (number_of r) ≡ refusal_of q m
      unfolding refusal_of
      by_listing r h = rw (le-leb 32768 m.work w, ← s, by_verdict, ← v, h)

      module _ (a : o ≡ Ok tt) where
        pub by_specifier : false ≡ is_specifier q.specifier → some 22 ≡ refusal_of q m
        unfolding refusal_of
        by_specifier h = rw (le-leb 32768 m.work w, ← s, by_verdict, ← v, a, ← h)

        module _ (x : true ≡ is_specifier q.specifier) where
          pub by_start : false ≡ is_directory_of q.listing q.start → some 23 ≡ refusal_of q m
          unfolding refusal_of
          by_start h = rw (le-leb 32768 m.work w, ← s, by_verdict, ← v, a, ← x, ← h)

          pub by_none : true ≡ is_directory_of q.listing q.start → none ≡ refusal_of q m
          unfolding refusal_of
          by_none h = rw (le-leb 32768 m.work w, ← s, by_verdict, ← v, a, ← x, ← h)
