-- What a target gives.
use mathlib.Core.Path.{◌≡◌, refl, sym, ◌∙◌, ap}
use mathlib.Core.Bool.{Bool, true, false}
use mathlib.Core.List.{List, ◌++◌}
use Prim.Native.Nat.{ℕ, ◌<◌, ◌≤◌}
use native.Mathlib.Omega.{arith}
use lib.ListN.{length, take, length-take}
use lib.Dec.{leb}
use borrow.Author.Tests.{leb-true, leb-false, lt-ltb, le-ltb}
use Rattle.definition.specs.Text.{text, star, contains, ends_with, replace}
use Rattle.definition.specs.Path.{Built, built, too_long, and_path, limited, add_extension, normalize_with, is_invalid_exports_target}
use Rattle.laws.specs.PathLaws.{limited_fits, limited_long as limited-over, limited_append}
use Rattle.definition.specs.Exports.{Request, found, overlong, target, directory_error, target_path, invalid_target, outcome_of, normalize_string_target}
use Rattle.path.specs.Meaning.{path_at, is_too_long}
use Rattle.path.proofs.Steps.{at_fits, at_long}
use Rattle.targets.specs.declared.Form.TheVariants.{Plain, Starred, Folder}
use Rattle.targets.specs.declared.Outcome.TheVariants.{InvalidTarget, ConfigDirectory}
use Rattle.targets.specs.declared.Wanted.{Wanted}
use Rattle.targets.specs.Answers.{outcome_in, text_in, Formed, Asked}

clash : {P : Type 0} {x : List ℕ} → built x ≡ too_long → P
clash e = absurd (let z : ◌≡◌ {A = ℕ} 0 1 = cc in omega arith)

-- a text under the limit
pub limited_text : (t u : List ℕ) → limited t ≡ built u → u ≡ t
limited_text t u e = go (leb (length t) 2048) refl
  where
    go : (b : Bool) → leb (length t) 2048 ≡ b → u ≡ t
    go true h = let f = limited_fits t (leb-true _ _ h) in cc
    go false h = let f = limited-over t (leb-false _ _ h) in clash (sym e ∙ f)

pub limited_long : (t : List ℕ) → limited t ≡ too_long → 2048 < length t
limited_long t e = go (leb (length t) 2048) refl
  where
    go : (b : Bool) → leb (length t) 2048 ≡ b → 2048 < length t
    go true h = clash (sym (limited_fits t (leb-true _ _ h)) ∙ e)
    go false h = leb-false _ _ h

pub built_short : (b : List ℕ) (n : ℕ) (t : List ℕ) → path_at b n ≡ built t → length t ≤ 2048
built_short b n t e = go (leb n 2048) refl
  where
    go : (u : Bool) → leb n 2048 ≡ u → length t ≤ 2048
    go true h =
        let l = leb-true _ _ h in
        let f = sym (at_fits b n l) ∙ e in
        let g : take n b ≡ t = cc in
        omega (arith, ap length g, length-take n b)
    go false h = clash (sym e ∙ at_long b n (leb-false _ _ h))

pub limited_same : (t u : List ℕ) → limited t ≡ limited u → length u ≤ 2048 → t ≡ u
limited_same t u e l = sym (limited_text t u (e ∙ limited_fits u l))

-- a text under the limit is the text of its path
pub text_put : (x : Built) (t : List ℕ) → x ≡ limited t → length t ≤ 2048 → text_in x ≡ t
text_put x t e l = rw (e, limited_fits t l)

pub put_short : (x : Built) (t : List ℕ) → x ≡ limited t → length t ≤ 2048 → is_too_long x ≡ false
put_short x t e l = rw (e, limited_fits t l)

-- a target
module _ (q : Request) (t : List ℕ) where
  pub target_over : 2048 < length t → overlong ≡ target_path q (target t)
  unfolding target_path
  target_over h = rw (lt-ltb 2048 (length t) h)

  module _ (h : length t ≤ 2048) where
    invalid_is : is_invalid_exports_target t ≡ true → invalid_target q t ≡ target_path q (target t)
    unfolding target_path
    invalid_is i = rw (le-ltb 2048 (length t) h, i)

    pub target_invalid : is_invalid_exports_target t ≡ true
        → outcome_in q.package_url q.key q.matched InvalidTarget t ≡ target_path q (target t)
    unfolding invalid_target
    target_invalid i = invalid_is i

    module _ (i : is_invalid_exports_target t ≡ false) (url : List ℕ) (u : q.package_url ≡ url) (p : Built)
        (e : p ≡ normalize_with url t) where
      path_is : outcome_of (normalize_with url t) ≡ target_path q (target t)
      unfolding target_path
      path_is = rw (le-ltb 2048 (length t) h, i, u)

      pub path_over : p ≡ too_long → overlong ≡ target_path q (target t)
      unfolding outcome_of
      path_over l = sym (ap outcome_of (sym e ∙ l)) ∙ path_is

      pub path_found : (x : List ℕ) → p ≡ built x → found x ≡ target_path q (target t)
      unfolding outcome_of
      path_found x l = sym (ap outcome_of (sym e ∙ l)) ∙ path_is

-- a target that was built
module _ (q : Request) (x : List ℕ) (p : Built) (e : p ≡ limited x) where
  pub built_over : p ≡ too_long → overlong ≡ target_path q (target x)
  built_over l = target_over q x (limited_long x (sym e ∙ l))

  pub built_text : (s : List ℕ) → p ≡ built s → target_path q (target s) ≡ target_path q (target x)
  built_text s l = ap (λ y. target_path q (target y)) (limited_text x s (sym e ∙ l))

pub appended : (t m : List ℕ) → and_path (limited t) (λ p. add_extension p m) ≡ limited (t ++ m)
unfolding add_extension
appended t m = limited_append t m

-- `normalize_string_target`
module _ {q : Request} {w : Wanted} (a : Asked q w) (t : List ℕ) where
  pub plain_target : w.form ≡ Plain → target t ≡ normalize_string_target q.key t q.matched
  unfolding normalize_string_target
  plain_target e = rw (rw e at a.formed)

  pub starred_target : w.form ≡ Starred
      → target (replace star w.pattern.now t) ≡ normalize_string_target q.key t q.matched
  unfolding normalize_string_target
  starred_target e = let f : Formed q Starred w.pattern.now = rw e at a.formed in rw (f.0, f.1)

  module _ (e : w.form ≡ Folder) where
    folder : Formed q Folder w.pattern.now
    folder = rw e at a.formed

    pub folder_star : contains star t ≡ true
        → target (replace star w.pattern.now t) ≡ normalize_string_target q.key t q.matched
    unfolding normalize_string_target
    folder_star h = rw (folder.0, folder.1, h)

    module _ (h : contains star t ≡ false) where
      pub folder_both : ends_with (text "/") t ≡ true
          → target (t ++ w.pattern.now) ≡ normalize_string_target q.key t q.matched
      unfolding normalize_string_target
      folder_both g = rw (folder.0, folder.1, folder.2, h, g)

      pub folder_error : ends_with (text "/") t ≡ false → directory_error ≡ normalize_string_target q.key t q.matched
      unfolding normalize_string_target
      folder_error g = rw (folder.0, folder.1, folder.2, h, g)

pub directory_is : (q : Request) (t : List ℕ)
    → outcome_in q.package_url q.key q.matched ConfigDirectory t ≡ target_path q directory_error
unfolding target_path
directory_is q t = refl
