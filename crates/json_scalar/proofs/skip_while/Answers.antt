-- Each byte passes the test, or the search ends at it; behind the last there is nothing.
use mathlib.Core.Path.{refl, sym, ◌∙◌}
use Rattle.std.proofs.Common.{◌≤◌, length, arith}
use Rattle.definition.specs.Text.{skip_while}
use Rattle.json_string.proofs.Rules.{here, past}
use Rattle.json_scalar.proofs.skip_while.Goals as goal

pub loop-i-init : goal.loop-i-init
loop-i-init g c p h = refl

pub loop-i-preserved : goal.loop-i-preserved
unfolding skip_while
loop-i-preserved g c p h =
    c.loop-i.invariant p h
    ∙ rw (here _ _ c.loop-i-test.true) (rw (sym (h _ _ c.test.ensures) ∙ c.if-not-test.false))

pub returns-then-not-test : goal.returns-then-not-test
unfolding skip_while
returns-then-not-test g c p h =
    c.loop-i.invariant p h
    ∙ rw (here _ _ c.loop-i-test.true) (rw (sym (h _ _ c.test.ensures) ∙ c.if-not-test.true))

pub returns : goal.returns
unfolding skip_while
returns g c p h =
    let behind : length c.args.m.now ≤ c.max.result = omega (arith, c.max.ensures) in
    c.loop-i.invariant p h ∙ rw (past _ _ c.loop-i-test.false, past _ _ behind)
