-- The loop over the entries of an array or an object: whatever reads the entries from a place on reads the whole.
use mathlib.Core.Path.{◌≡◌, refl, sym, ◌∙◌}
use mathlib.Core.List.{List, [], ◌∷◌}
use Prim.Native.Nat.{ℕ, zero, suc, ◌+◌, ◌-◌, ◌<◌, ◌≤◌}
use native.Mathlib.Omega.{arith}
use lib.ListN.{drop}
use lib.Dec.{eqb}
use borrow.Author.Tests.{ne_eqb, eqb-true}
use Rattle.std.specs.Prelude.{Option, Some, None, SomeIff, Result, Ok, Err}
use Rattle.std.specs.Option.{option_eq}
use Rattle.definition.specs.Json.{Json, str, arr, obj, element, member, Read, got, fault, malformed, and_then, skip_space, quoted, elements, members, array, object, value, value_by}
use Rattle.json_text.specs.Scanned.{left, Left, Reads}
use Rattle.json_text.specs.declared.Fault.{Fault}
use Rattle.json_text.specs.declared.Fault.TheVariants.{Malformed, Beyond}
use mathlib.Core.Bool.{true, false}
use Rattle.json_text.proofs.Laws.{then_fault, then_end, reads_map}
use Rattle.json_scalar.specs.Scalars.{scalar_of, after_of, after_at}
use Rattle.json_scalar.specs.declared.Then.TheVariants.{More, Close}
use Rattle.json_value.specs.Members.{key_of}
use Rattle.json_value.specs.Entries.{close_of, begins_of, start_of, opened, ReadsEntries}
use Rattle.json_value.specs.declared.Bracket.{Bracket}
use Rattle.json_value.specs.declared.Bracket.TheVariants.{Square, Curly}
use Rattle.json_value.proofs.Values.{follow_more, follow_close, follow_fault, one_element, one_member, with_value, joined, rest_elements, rest_members}

none : {P : Type 0} → ⊥ → P
none z = absurd z

-- a scan of a name and its colon, which keeps no name
named : {m : List ℕ} (x : Read (List ℕ)) {r : Result ℕ Fault} → Reads m (left x) r → Reads m x r
named (got k s) h = record { is = h.is }
named (fault f) h = record { is = h.is }

-- behind the value of an entry
abbrev RestReads : Bracket → (List ℕ → Read Json) → ℕ → List ℕ → ℕ → Result ℕ Fault → Type 0
RestReads Square v n m e r = Reads m (rest_elements v n (drop e m)) r
RestReads Curly v n m e r = Reads m (rest_members v n (drop e m)) r

module _ (v : List ℕ → Read Json) (m : List ℕ) (n e : ℕ) where
  rest_fault : (b : Bracket) (f : Fault) → after_of (close_of b) (skip_space (drop e m)) ≡ after_at m (Err f)
      → RestReads b v n m e (Err f)
  rest_fault Square f h = follow_fault m _ _ _ _ f h
  rest_fault Curly f h = follow_fault m _ _ _ _ f h

  rest_close : (b : Bracket) (j : ℕ) → after_of (close_of b) (skip_space (drop e m)) ≡ after_at m (Ok (Close j))
      → RestReads b v n m e (Ok j)
  rest_close Square j h = follow_close m _ _ _ _ j h
  rest_close Curly j h = follow_close m _ _ _ _ j h

  rest_more : (b : Bracket) (j : ℕ) (r : Result ℕ Fault)
      → after_of (close_of b) (skip_space (drop e m)) ≡ after_at m (Ok (More j)) → ReadsEntries b v n m j r
      → RestReads b v n m e r
  rest_more Square j r h g = follow_more m _ _ _ _ j h g
  rest_more Curly j r h g = follow_more m _ _ _ _ j h g

-- one entry: its start, its value and what is behind it
module _ (v : List ℕ → Read Json) (m : List ℕ) (n i : ℕ) (z : n ≡ 0 → ⊥) where
  start_fault : (b : Bracket) {f : Fault} → Reads m (start_of b (drop i m)) (Err f) → ReadsEntries b v n m i (Err f)
  start_fault Square h = none (let e = h.is in let y : ◌≡◌ {A = ℕ} 0 1 = cc in omega arith)
  start_fault Curly h =
      rw (one_member v n (drop i m) z) (then_fault (with_value v (n - 1)) (named (key_of (drop i m)) h))

  module _ {from : ℕ} where
    at_start : Reads m (start_of Square (drop i m)) (Ok from) → drop i m ≡ drop from m
    at_start h = let e = h.is in cc

    value_fault : (b : Bracket) {f : Fault} → Reads m (start_of b (drop i m)) (Ok from)
        → Reads m (v (drop from m)) (Err f) → ReadsEntries b v n m i (Err f)
    value_fault Square h g =
        rw (one_element v n (drop i m) z, at_start h) (then_fault (λ j r. and_then (rest_elements v (n - 1) r) (λ js t. got (element j js) t)) g)
    value_fault Curly h g =
        rw (one_member v n (drop i m) z) (then_end (with_value v (n - 1)) (named (key_of (drop i m)) h) (λ x. then_fault (joined v (n - 1) x) g))

    value_end : (b : Bracket) (e : ℕ) (t : Result ℕ Fault) → Reads m (start_of b (drop i m)) (Ok from)
        → Reads m (v (drop from m)) (Ok e) → RestReads b v (n - 1) m e t → ReadsEntries b v n m i t
    value_end Square e t h g k =
        rw (one_element v n (drop i m) z, at_start h) (then_end (λ j r. and_then (rest_elements v (n - 1) r) (λ js t. got (element j js) t)) g (λ j. reads_map (λ js. element j js) k))
    value_end Curly e t h g k =
        rw (one_member v n (drop i m) z) (then_end (with_value v (n - 1)) (named (key_of (drop i m)) h) (λ x. then_end (joined v (n - 1) x) g (λ j. reads_map (λ ms. member x j ms) k)))

-- behind the bracket and white space
abbrev whole : Bracket → (List ℕ → Read Json) → List ℕ → Read Json
whole Square v s = array v s
whole Curly v s = object v s

pub record Entries (b : Bracket) (v : List ℕ → Read Json) (m s : List ℕ) (i n : ℕ) : Type 0 where
  pub rest : {r : Result ℕ Fault} → ReadsEntries b v n m i r → Reads m (whole b v s) r

module _ {b : Bracket} {v : List ℕ → Read Json} {m s : List ℕ} {i n : ℕ} (g : Entries b v m s i n) where
  module _ (l : 0 < n) where
    pub entries_start : (f : Fault) → Reads m (start_of b (drop i m)) (Err f) → Reads m (whole b v s) (Err f)
    entries_start f h = g.rest (start_fault v m n i (λ z. omega arith) b h)

    module _ {from : ℕ} (h : Reads m (start_of b (drop i m)) (Ok from)) where
      pub entries_value : (f : Fault) → Reads m (v (drop from m)) (Err f) → Reads m (whole b v s) (Err f)
      entries_value f e = g.rest (value_fault v m n i (λ z. omega arith) b h e)

      module _ {e : ℕ} (k : Reads m (v (drop from m)) (Ok e)) where
        pub entries_fault : (f : Fault) → after_of (close_of b) (skip_space (drop e m)) ≡ after_at m (Err f)
            → Reads m (whole b v s) (Err f)
        entries_fault f a = g.rest (value_end v m n i (λ z. omega arith) b e _ h k (rest_fault v m (n - 1) e b f a))

        pub entries_close : (j : ℕ) → after_of (close_of b) (skip_space (drop e m)) ≡ after_at m (Ok (Close j))
            → Reads m (whole b v s) (Ok j)
        entries_close j a = g.rest (value_end v m n i (λ z. omega arith) b e _ h k (rest_close v m (n - 1) e b j a))

        pub entries_more : (j q : ℕ) → after_of (close_of b) (skip_space (drop e m)) ≡ after_at m (Ok (More j))
            → q ≡ n - 1 → Entries b v m s j q
        entries_more j q a y =
            record { rest = λ {r} c. g.rest (value_end v m n i (λ z. omega arith) b e r h k (rest_more v m (n - 1) e b j r a (rw y at c))) }

-- the first byte: the closing bracket k, or where the entries begin
module _ (v : List ℕ → Read Json) (m s : List ℕ) (i k : ℕ) (e : s ≡ drop i m) where
  pub entries_none : (b : Bracket) → k ≡ close_of b → (first : Option ℕ) → Left first (drop i m) (drop (i + 1) m)
      → option_eq eqb first (Some k) ≡ true → Reads m (whole b v s) (Ok (i + 1))
  unfolding array object
  entries_none b z None l q = none (let y : ◌≡◌ {A = ℕ} 0 1 = cc in omega arith)
  entries_none Square z (Some x) l q = record { is = rw (e ∙ l, eqb-true x k q ∙ z) }
  entries_none Curly z (Some x) l q = record { is = rw (e ∙ l, eqb-true x k q ∙ z) }

  pub entries_some : (b : Bracket) → k ≡ close_of b → (first : Option ℕ) → v [] ≡ fault malformed
      → Left first (drop i m) (drop (i + 1) m) → option_eq eqb first (Some k) ≡ false → Entries b v m s i 128
  unfolding array object elements members quoted
  entries_some b z first n l q = record { rest = go b z first l q }
    where
      no_elements : left (elements v 128 []) ≡ fault malformed
      no_elements = rw n

      go : (b : Bracket) → k ≡ close_of b → (first : Option ℕ) → Left first (drop i m) (drop (i + 1) m)
          → option_eq eqb first (Some k) ≡ false → {r : Result ℕ Fault} → ReadsEntries b v 128 m i r
          → Reads m (whole b v s) r
      go Square z None l q {r} h = let f : Reads m (elements v 128 []) r = rw l at h in rw (e ∙ l) (record { is = sym no_elements ∙ f.is })
      go Curly z None l q {r} h = let f : Reads m (members v 128 []) r = rw l at h in rw (e ∙ l) (record { is = f.is })
      go Square z (Some x) l q {r} h = rw (e ∙ l, rw z at q) (rw l at (reads_map arr h))
      go Curly z (Some x) l q {r} h = rw (e ∙ l, rw z at q) (rw l at (reads_map obj h))

-- values by their first byte
pub value_open : (d : ℕ) (s : List ℕ) → value d s ≡ value_by (λ r. opened Square d r) (λ r. opened Curly d r) s
unfolding value
value_open zero s = refl
value_open (suc d) s = refl

pub value_nothing : (d : ℕ) → value d [] ≡ fault malformed
unfolding value value_by
value_nothing zero = refl
value_nothing (suc d) = refl

pub deeper : (b : Bracket) (d inner : ℕ) (s : List ℕ) (o : Option ℕ) → SomeIff o (1 ≤ d) (d - 1) → o ≡ Some inner
    → opened b d s ≡ whole b (value inner) (skip_space s)
deeper b d inner s None h e = none (let y : ◌≡◌ {A = ℕ} 0 1 = cc in omega arith)
deeper b zero inner s (Some x) h e = none (let y = h.0 in omega arith)
deeper b (suc d) inner s (Some x) h e = let y : x ≡ inner = cc in let z : inner ≡ d = omega (arith, h.1) in rw z (go b)
  where
    go : (b : Bracket) → opened b (suc d) s ≡ whole b (value d) (skip_space s)
    go Square = refl
    go Curly = refl

module _ (m : List ℕ) (d : ℕ) (s t : List ℕ) (x : ℕ) (l : s ≡ x ∷ t) {r : Result ℕ Fault} where
  pub value_text : x ≡ 34 → Reads m (quoted s) r → Reads m (value d s) r
  unfolding value_by
  value_text e g = rw (value_open d s) (rw (l, e) (rw (l, e) at (reads_map str g)))

  pub value_array : x ≡ 91 → Reads m (opened Square d t) r → Reads m (value d s) r
  unfolding value_by
  value_array e g = rw (value_open d s) (rw (l, e) g)

  pub value_object : x ≡ 123 → Reads m (opened Curly d t) r → Reads m (value d s) r
  unfolding value_by
  value_object e g = rw (value_open d s) (rw (l, e) g)

  pub value_scalar : (x ≡ 34 → ⊥) → (x ≡ 91 → ⊥) → (x ≡ 123 → ⊥) → Reads m (scalar_of s) r → Reads m (value d s) r
  unfolding value_by scalar_of
  value_scalar p q o g = rw (value_open d s) (rw (l, ne_eqb x 34 p, ne_eqb x 91 q, ne_eqb x 123 o) (rw l at g))

pub value_end_lem : (m : List ℕ) (d : ℕ) (s : List ℕ) {r : Result ℕ Fault} → s ≡ [] → Reads m (scalar_of s) r
    → Reads m (value d s) r
unfolding scalar_of
value_end_lem m d s l g = rw (l, value_nothing d) (rw l at g)

-- one entry too many
module _ (v : List ℕ → Read Json) (m : List ℕ) (i : ℕ) where
  pub extra_begins : (b : Bracket) (x : ℕ) (t : List ℕ) → drop i m ≡ x ∷ t → begins_of b x ≡ true
      → ReadsEntries b v 0 m i (Err Beyond)
  unfolding elements members
  extra_begins Square x t l e = record { is = rw l (rw e) }
  extra_begins Curly x t l e = record { is = rw l (rw e) }

  pub extra_other : (b : Bracket) (x : ℕ) (t : List ℕ) → drop i m ≡ x ∷ t → begins_of b x ≡ false
      → ReadsEntries b v 0 m i (Err Malformed)
  unfolding elements members
  extra_other Square x t l e = record { is = rw l (rw e) }
  extra_other Curly x t l e = record { is = rw l (rw e) }

  pub extra_end : (b : Bracket) → drop i m ≡ [] → ReadsEntries b v 0 m i (Err Malformed)
  unfolding elements members
  extra_end Square l = record { is = rw l }
  extra_end Curly l = record { is = rw l }
