-- The members and the elements that are left, by one more at a time; and the search among members.
use mathlib.Core.Path.{◌≡◌, refl, sym}
use mathlib.Core.Bool.{true, false}
use mathlib.Core.List.{List, [], ◌∷◌}
use mathlib.Core.Option.{Option, none, some}
use Prim.Native.Nat.{ℕ, zero, suc, ◌+◌}
use native.Mathlib.Omega.{arith}
use Rattle.std.specs.Prelude.{if◌then◌else◌}
use Rattle.definition.specs.JsonAt.{first_member, next_member, member_value, name_is, find_member, get_at}
use Rattle.package_json.specs.Parts.{one_by_one, members_of}

none_from : (next : List ℕ → Option (List ℕ)) (n : ℕ) → one_by_one next n none ≡ []
unfolding one_by_one
none_from next zero = refl
none_from next (suc n) = refl

module _ (next : List ℕ → Option (List ℕ)) (n : ℕ) (c : Option (List ℕ)) where
  pub none_over : n ≡ 0 → one_by_one next n c ≡ []
  unfolding one_by_one
  none_over z = rw z

  pub none_there : c ≡ none → one_by_one next n c ≡ []
  none_there e = rw e (none_from next n)

  pub one_there : {s : List ℕ} {d : Option (List ℕ)} (k : ℕ) → k + 1 ≡ n → c ≡ some s → d ≡ next s
      → one_by_one next n c ≡ s ∷ one_by_one next k d
  unfolding one_by_one
  one_there k l e f = let z : n ≡ suc k = omega (arith, l) in rw (z, e, f)

-- the value of the last member with the name k, f where there is none
unfoldable pub found_in : List ℕ → Option (List ℕ) → List (List ℕ) → Option (List ℕ)
found_in k f [] = f
found_in k f (s ∷ ss) = found_in k (if name_is k s then member_value s else f) ss

find_is : (n : ℕ) (k : List ℕ) (f c : Option (List ℕ)) → find_member n k f c ≡ found_in k f (one_by_one next_member n c)
unfolding find_member found_in one_by_one
find_is zero k f c = refl
find_is (suc n) k f none = refl
find_is (suc n) k f (some s) = find_is n k (if name_is k s then member_value s else f) (next_member s)

pub get_is : (k s : List ℕ) → get_at k s ≡ found_in k none (members_of s)
unfolding get_at
get_is k s = find_is 128 k none (first_member s)

pub found_end : (k : List ℕ) (f : Option (List ℕ)) {ss : List (List ℕ)} → ss ≡ [] → found_in k f ss ≡ f
unfolding found_in
found_end k f e = rw e

module _ (k : List ℕ) (f : Option (List ℕ)) {s : List ℕ} {ss rest : List (List ℕ)} (e : ss ≡ s ∷ rest) where
  pub found_here : {v : Option (List ℕ)} → true ≡ name_is k s → v ≡ member_value s → found_in k f ss ≡ found_in k v rest
  unfolding found_in
  found_here t v = rw e (rw (sym t, v))

  pub found_other : false ≡ name_is k s → found_in k f ss ≡ found_in k f rest
  unfolding found_in
  found_other t = rw e (rw (sym t))
