-- By the definition's cases of a subpath and of a name.
use mathlib.Core.Path.{◌≡◌, refl}
use mathlib.Core.Bool.{false}
use mathlib.Core.List.{[], ◌∷◌}
use native.Mathlib.Omega.{arith}
use borrow.Author.Tests.{ne_eqb}
use lib.Dec.{eqb}
use lib.ListN.{length}
use Rattle.std.specs.Prelude.{if◌then◌else◌}
use Rattle.definition.specs.Text.{Text, text, starts_with}
use Rattle.definition.specs.Settings.{Settings}
use Rattle.definition.specs.Ask.{ret}
use Rattle.definition.specs.Walk.{in_scope_dir, go_on}
use Rattle.consults.specs.Tape.{done_ret}
use Rattle.modules.proofs.without_directory.Goals as goal

by_subpath : (G : Settings) (spec name sub q : Text)
    → go_on G spec name sub q false
    ≡ (if eqb (length sub) 0 then in_scope_dir G q (starts_with (text "@") name) else ret false)
unfolding go_on
by_subpath G spec name [] q = refl
by_subpath G spec name (x ∷ sub) q = rw (ne_eqb (length (x ∷ sub)) 0 (λ z. omega arith))

pub returns-then-not-is_empty-clause-done : goal.returns-then-not-is_empty-clause-done
returns-then-not-is_empty-clause-done c = rw (by_subpath, ← c.is_empty.ensures, c.if-not-is_empty.true) done_ret

pub returns-then-not-starts_with-clause-done : goal.returns-then-not-starts_with-clause-done
unfolding in_scope_dir
returns-then-not-starts_with-clause-done c =
    rw (by_subpath, ← c.is_empty.ensures, c.if-not-is_empty.false)
    (rw (← c.starts_with.ensures, c.if-not-starts_with.true) done_ret)

pub returns-clause-done : goal.returns-clause-done
unfolding in_scope_dir
returns-clause-done c =
    rw (by_subpath, ← c.is_empty.ensures, c.if-not-is_empty.false)
    (rw (← c.starts_with.ensures, c.if-not-starts_with.false, ← c.parent.ensures) (c.is_directory.ensures.done _))
