-- The members of an object and the elements of an array, one after another: of each, the text that begins with it.
use Rattle.std.specs.Prelude.{◌≡◌, ℕ, zero, suc, List, [], ◌∷◌, Option as Answer, Some, None, drop}
use Rattle.std.proofs.Math.Option.{Option, none, some}
use Rattle.definition.specs.Text.{Text}
use Rattle.definition.specs.JsonAt.{first_member, first_element, next_member, next_element, member_value}
use Rattle.package_json.specs.Cursors.{placed}
use Rattle.package_json.specs.declared.MemberAt.{MemberAt}
use Rattle.package_json.specs.declared.MembersLeft.{MembersLeft}
use Rattle.package_json.specs.declared.ElementsLeft.{ElementsLeft}

-- from c on, each by one step from the one before it, at most n
unfoldable pub one_by_one : (Text → Option Text) → ℕ → Option Text → List Text
one_by_one next zero c = []
one_by_one next (suc n) none = []
one_by_one next (suc n) (some s) = s ∷ one_by_one next n (next s)

abbrev pub members_of : Text → List Text
members_of s = one_by_one next_member 128 (first_member s)

abbrev pub elements_of : Text → List Text
elements_of s = one_by_one next_element 128 (first_element s)

-- those that are left
abbrev pub members_left : MembersLeft → List Text
members_left t = one_by_one next_member t.left (placed t.manifest.now t.next)

abbrev pub elements_left : ElementsLeft → List Text
elements_left t = one_by_one next_element t.left (placed t.manifest.now t.next)

-- the first that was left comes, the others are left, in the same manifest
pub record MemberComes (s : MembersLeft) (x : MemberAt) (t : MembersLeft) : Type 0 where
  pub manifest : t.manifest.now ≡ s.manifest.now
  pub first : members_left s ≡ drop x.name s.manifest.now ∷ members_left t
  pub value : placed s.manifest.now x.value ≡ member_value (drop x.name s.manifest.now)

pub record ElementComes (s : ElementsLeft) (i : ℕ) (t : ElementsLeft) : Type 0 where
  pub manifest : t.manifest.now ≡ s.manifest.now
  pub first : elements_left s ≡ drop i s.manifest.now ∷ elements_left t

abbrev pub GivesMember : MembersLeft → Answer MemberAt → MembersLeft → Type 0
GivesMember s (Some x) t = MemberComes s x t
GivesMember s None t = members_left s ≡ []

abbrev pub GivesElement : ElementsLeft → Answer ℕ → ElementsLeft → Type 0
GivesElement s (Some i) t = ElementComes s i t
GivesElement s None t = elements_left s ≡ []
