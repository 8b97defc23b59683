-- Byte by byte, by what is left of the text and of the key.
use mathlib.Core.Path.{◌∙◌}
use Rattle.json_text.proofs.Strings.{opposite, ends_both, compared_out, verbatim_start, verbatim_close, verbatim_other, verbatim_on}
use Rattle.json_text.proofs.same_text.Goals as goal

pub loop-k-init : goal.loop-k-init
loop-k-init c t u h = verbatim_start _ _ t u h

pub returns-then-b-eq34 : goal.returns-then-b-eq34
returns-then-b-eq34 c t u h =
    ends_both c.args.key.now c.loop-k.k ∙ verbatim_close (c.loop-k.invariant t u h) c.loop-k-test.true c.if-b-eq34.true

pub returns-then-ne : goal.returns-then-ne
returns-then-ne c t u h =
    verbatim_other (c.loop-k.invariant t u h) c.loop-k-test.true c.if-b-eq34.false c.if-b-eq92.false _ c.byte_at.ensures.left (opposite _ c.ne.ensures c.if-ne.true)

pub loop-k-preserved : goal.loop-k-preserved
loop-k-preserved c t u h =
    verbatim_on (c.loop-k.invariant t u h) c.loop-k-test.true c.if-b-eq34.false c.if-b-eq92.false _ c.byte_at.ensures.left (opposite _ c.ne.ensures c.if-ne.false)

pub returns : goal.returns
returns c t u h = compared_out (c.loop-k.invariant t u h).so_far c.loop-k-test.false
