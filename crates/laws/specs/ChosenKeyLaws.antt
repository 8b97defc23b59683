-- THE SEARCH FOR THE BEST KEY takes the greatest by a number, and so the same in every order of the members. The theorem: ChosenKey.
use Rattle.std.specs.Prelude.{◌≡◌, ℕ, suc, Bool, ◌&&◌, if◌then◌else◌}
use Rattle.std.proofs.Math.Path.{refl, sym, ap}
use Rattle.std.proofs.Common.{◌∙◌, arith, true≢false, lt-ltb}
use Rattle.std.proofs.Math.Bool.{true, false}
use mathlib.Core.List.{List, [], ◌∷◌, Memᴰ, Permᴰ}
use Rattle.std.proofs.Math.Option.{Option, none, some}
use Rattle.std.proofs.Math.Dec.{ltb, leb-suc-suc}
use Rattle.definition.specs.Text.{equal}
use Rattle.laws.specs.TextLaws.{equal_true, equal_refl}
use Rattle.definition.specs.Exports.{Entry, is_gt, PATTERN_KEY_COMPARE, matches, best_key, better, best}
use Rattle.laws.specs.KeyOrderLaws.{rank, rank_inj, compare_rank}
use Rattle.laws.specs.FoldLaws.{fold, fold_perm, greater, greater_commutes}

-- a key leads to one entry: what distinct keys give, and the same in every order
abbrev pub Functional : List Entry → Type 0
Functional es = (e f : Entry) → Memᴰ e es → Memᴰ f es → e.key ≡ f.key → e ≡ f

unfoldable pub score : List ℕ → Option Entry → ℕ
score mk none = 0
score mk (some e) = suc (rank mk e.key)

-- the step of the choice, by the score
unfoldable pub by_score : List ℕ → Option Entry → Entry → Option Entry
by_score mk b e = if matches mk e.key then greater (score mk) b (some e) else b

module _ (mk : List ℕ) (es : List Entry) (functional : Functional es) where
  unfoldable pub Best : Option Entry → Type 0
  Best none = Unit {0}
  Best (some e) = Memᴰ e es × (matches mk e.key ≡ true)

  pub keeps : (b : Option Entry) (e : Entry) → Best b → Memᴰ e es → Best (better mk b e)
  unfolding better Best
  keeps b e i m = go (matches mk e.key) refl (is_gt (PATTERN_KEY_COMPARE (best_key b) e.key))
    where
      go : (t : Bool) → matches mk e.key ≡ t → (u : Bool) → Best (if t && u then some e else b)
      go true h true = (m, h)
      go true h false = i
      go false h u = i

  same_best : (e f : Entry) → Memᴰ e es → Memᴰ f es → matches mk e.key ≡ true → matches mk f.key ≡ true
      → score mk (some e) ≡ score mk (some f) → some e ≡ some f
  unfolding score
  same_best e f m n p q h = ap some (functional e f m n (rank_inj mk e.key f.key p q (omega arith)))

  pub better_is : (b : Option Entry) (e : Entry) → Best b → Memᴰ e es → better mk b e ≡ by_score mk b e
  unfolding better by_score greater score best_key PATTERN_KEY_COMPARE is_gt Best
  better_is none e i m = go (matches mk e.key)
    where
      go : (t : Bool) → (if t && true then some e else none) ≡ (if t then (if ltb 0 (suc (rank mk e.key)) then some e else none) else none)
      go true = rw (lt-ltb 0 (suc (rank mk e.key)) (omega arith))
      go false = refl
  better_is (some f) e i m = go (matches mk e.key) refl
    where
      one : f ≡ e → (t : Bool) → (if t then some e else some f) ≡ some e
      one p true = refl
      one p false = ap some p

      keys : (t : Bool) → equal f.key e.key ≡ t → matches mk e.key ≡ true
          → (if is_gt (PATTERN_KEY_COMPARE f.key e.key) then some e else some f) ≡ (if ltb (suc (rank mk f.key)) (suc (rank mk e.key)) then some e else some f)
      keys true q h =
          let p : f ≡ e = functional f e i.0 m (equal_true f.key e.key q) in
          one p (is_gt (PATTERN_KEY_COMPARE f.key e.key)) ∙ sym (one p (ltb (suc (rank mk f.key)) (suc (rank mk e.key))))
      keys false q h =
          let d : f.key ≡ e.key → ⊥ = λ p. true≢false (sym (rw p (equal_refl e.key)) ∙ q) in
          rw (compare_rank mk f.key e.key i.1 h d, leb-suc-suc (suc (rank mk f.key)) (rank mk e.key))

      go : (t : Bool) → matches mk e.key ≡ t → better mk (some f) e ≡ by_score mk (some f) e
      go false h = rw (h, better, by_score)
      go true h = rw h (keys (equal f.key e.key) refl h)

  by_score_commutes : (b : Option Entry) (e f : Entry) → Memᴰ e es → Memᴰ f es → by_score mk (by_score mk b e) f ≡ by_score mk (by_score mk b f) e
  unfolding by_score
  by_score_commutes b e f m n = go (matches mk e.key) (matches mk f.key) refl refl
    where
      go : (s t : Bool) → matches mk e.key ≡ s → matches mk f.key ≡ t → by_score mk (by_score mk b e) f ≡ by_score mk (by_score mk b f) e
      go true true p q = rw (p, q) (greater_commutes (score mk) b (some e) (some f) (same_best e f m n p q))
      go true false p q = rw (p, q)
      go false true p q = rw (p, q)
      go false false p q = rw (p, q)

  commutes : (b : Option Entry) (e f : Entry) → Best b → Memᴰ e es → Memᴰ f es → better mk (better mk b e) f ≡ better mk (better mk b f) e
  commutes b e f i m n =
      better_is (better mk b e) f (keeps b e i m) n
      ∙ ap (λ c. by_score mk c f) (better_is b e i m)
      ∙ by_score_commutes b e f m n
      ∙ sym (better_is (better mk b f) e (keeps b f i n) m ∙ ap (λ c. by_score mk c e) (better_is b f i n))

  best_fold : (b : Option Entry) (l : List Entry) → best mk b l ≡ fold (better mk) b l
  unfolding best fold
  best_fold b [] = refl
  best_fold b (e ∷ l) = best_fold (better mk b e) l

  -- the chosen entry is the same in every order
  pub best_perm : {fs : List Entry} → Permᴰ es fs → best mk none es ≡ best mk none fs
  unfolding Best
  best_perm {fs} d =
      best_fold none es
      ∙ fold_perm (better mk) Best (λ e. Memᴰ e es) keeps commutes d (λ e m. m) none tt
      ∙ sym (best_fold none fs)
