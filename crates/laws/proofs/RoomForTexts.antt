-- A RESULT TEXT OF 6,157 BYTES IS NEVER TOO SHORT: the answer 20 does not come.
use Rattle.std.proofs.Math.Path.{◌≡◌, refl}
use Rattle.std.specs.Prelude.{Bool, ◌≤◌, leb}
use Rattle.std.proofs.Math.Bool.{true, false}
use Rattle.std.proofs.Math.Option.{none}
use native.Mathlib.Omega.{arith}
use Rattle.definition.specs.Specifier.{is_specifier}
use Rattle.definition.specs.Listing.{passes30, passes31, passes32, is_directory_of, accepted}
use Rattle.definition.specs.Settings.{passes24}
use Rattle.definition.specs.Called.{Question, end_of, list_of, Rooms, refusal_of, zeros, delivered, unless_refused, check, called}
use Rattle.laws.specs.WalkBounds.{EndFits, delivered_20}
use Rattle.laws.specs.TextsFit.{end_fits}

-- A RESULT TEXT OF 6,157 BYTES IS NEVER TOO SHORT, if the texts of the lookup's end fit: no call with one ends in 20
pub never_20 : (q : Question) (m : Rooms) → (accepted q.listing ≡ true → is_directory_of q.listing q.start ≡ true → is_specifier q.specifier ≡ true → EndFits (end_of q))
    → 6157 ≤ m.result → (called q m).number ≡ 20 → ⊥
unfolding called refusal_of accepted
never_20 q m fits r = by (leb 32768 m.work) (passes24 q.settings) (passes30 q.listing) refl (passes31 q.listing) refl (passes32 q.listing) refl (is_specifier q.specifier) refl (is_directory_of q.listing q.start) refl
  where
    by : (a b c : Bool) → passes30 q.listing ≡ c → (d : Bool) → passes31 q.listing ≡ d → (e : Bool) → passes32 q.listing ≡ e → (f : Bool) → is_specifier q.specifier ≡ f
        → (g : Bool) → is_directory_of q.listing q.start ≡ g
        → (unless_refused m (check a 25 (check b 24 (check c 30 (check d 31 (check e 32 (check f 22 (check g 23 none))))))) (delivered m (end_of q) (list_of q))).number ≡ 20 → ⊥
    by false b c x d y e z f v g w h = unfold unless_refused zeros in (omega arith)
    by true false c x d y e z f v g w h = unfold unless_refused zeros in (omega arith)
    by true true false x d y e z f v g w h = unfold unless_refused zeros in (omega arith)
    by true true true x false y e z f v g w h = unfold unless_refused zeros in (omega arith)
    by true true true x true y false z f v g w h = unfold unless_refused zeros in (omega arith)
    by true true true x true y true z false v g w h = unfold unless_refused zeros in (omega arith)
    by true true true x true y true z true v false w h = unfold unless_refused zeros in (omega arith)
    by true true true x true y true z true v true w h =
        delivered_20 m (end_of q) (list_of q) (fits (rw (x, y, z)) w v) r (unfold unless_refused in h)

-- A RESULT TEXT OF 6,157 BYTES IS NEVER TOO SHORT
pub room_enough : (q : Question) (m : Rooms) → 6157 ≤ m.result → (called q m).number ≡ 20 → ⊥
room_enough q m = never_20 q m (end_fits q)
