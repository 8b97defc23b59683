-- By the laws of `Loops`: what each way out of the loop, and of `value`, reads.
use mathlib.Core.Path.{sym, ◌∙◌}
use native.Mathlib.Omega.{arith}
use Rattle.std.proofs.lemmas.Result.{err_from_is_err_and}
use Rattle.json_value.proofs.Loops.{deeper, entries_none, entries_some, entries_start, entries_value, entries_fault, entries_close, entries_more, value_nothing, value_text, value_array, value_object, value_scalar, value_end_lem}
use Rattle.json_value.proofs.+entries_value.Goals as goal
use Rattle.json_value.proofs.+entries_value.Goals.{value-in_default-via-in-Some+in_default, value-in_default-via-in_default}

pub entries-returns-then-eq : goal.entries-returns-then-eq
entries-returns-then-eq t c =
    rw (deeper c.args.bracket c.args.depth _ _ _ c.checked_sub.ensures c.in_ok-inner.ensures.ok_part)
    (entries_none _ c.args.m.now _ _ _ c.skip_space-i.ensures c.args.bracket c.close.ensures _ c.byte_at.ensures.left (sym c.eq.ensures ∙ c.if-eq.true))

pub entries-loop-init : goal.entries-loop-init
entries-loop-init t c =
    entries_some _ c.args.m.now _ _ _ c.skip_space-i.ensures c.args.bracket c.close.ensures _ (value_nothing _) c.byte_at.ensures.left (sym c.eq.ensures ∙ c.if-eq.false)

pub entries-returns-in_err-value_start : goal.entries-returns-in_err-value_start
entries-returns-in_err-value_start t c =
    let out = err_from_is_err_and c.from_residual-in_err-value_start.result c.from_residual-in_err-value_start.ensures.1 in
    rw (out.1, out.2, deeper c.args.bracket c.args.depth _ _ _ c.checked_sub.ensures c.in_ok-inner.ensures.ok_part)
    (entries_start c.loop.invariant (omega arith) _ c.in_err-value_start.ensures)

pub entries-returns-in_err-end : goal.entries-returns-in_err-end
entries-returns-in_err-end t c =
    let out = err_from_is_err_and c.from_residual-in_err-end.result c.from_residual-in_err-end.ensures.1 in
    rw (out.1, out.2, deeper c.args.bracket c.args.depth _ _ _ c.checked_sub.ensures c.in_ok-inner.ensures.ok_part)
    (entries_value c.loop.invariant (omega arith) c.in_ok-value_start.ensures _ c.in_err-end.ensures)

pub entries-returns-in_err-next : goal.entries-returns-in_err-next
entries-returns-in_err-next t c =
    let out = err_from_is_err_and c.from_residual-in_err-next.result c.from_residual-in_err-next.ensures.1 in
    rw (out.1, out.2, deeper c.args.bracket c.args.depth _ _ _ c.checked_sub.ensures c.in_ok-inner.ensures.ok_part)
    (entries_fault c.loop.invariant (omega arith) c.in_ok-value_start.ensures c.in_ok-end.ensures _ (rw c.close-in-loop.ensures at c.in_err-next.ensures))

pub entries-returns-in-Close : goal.entries-returns-in-Close
entries-returns-in-Close t c =
    rw (deeper c.args.bracket c.args.depth _ _ _ c.checked_sub.ensures c.in_ok-inner.ensures.ok_part)
    (entries_close c.loop.invariant (omega arith) c.in_ok-value_start.ensures c.in_ok-end.ensures _ (rw (c.close-in-loop.ensures, c.in-Close.is) at c.in_ok-next.ensures))

pub entries-loop-preserved : goal.entries-loop-preserved
entries-loop-preserved t c =
    entries_more c.loop.invariant (omega arith) c.in_ok-value_start.ensures c.in_ok-end.ensures _ _ (rw (c.close-in-loop.ensures, c.in-More.is) at c.in_ok-next.ensures) (omega arith)

pub value-returns-in-Some-eq34 : goal.value-returns-in-Some-eq34
value-returns-in-Some-eq34 t c =
    value_text c.args.m.now _ _ _ _ c.in-Some-eq34.ensures.left c.in-Some-eq34.field-0-test c.quoted.ensures

pub value-returns-in-Some-eq91 : goal.value-returns-in-Some-eq91
value-returns-in-Some-eq91 t c =
    value_array c.args.m.now _ _ _ _ c.in-Some-eq91.ensures.left c.in-Some-eq91.field-0-test c.entries.ensures

pub value-returns-in-Some-eq123 : goal.value-returns-in-Some-eq123
value-returns-in-Some-eq123 t c =
    value_object c.args.m.now _ _ _ _ c.in-Some-eq123.ensures.left c.in-Some-eq123.field-0-test c.entries-in-Some-eq123.ensures

pub value-returns-in_default : goal.value-returns-in_default
value-returns-in_default t c =
    elim c.in_default.branch [
      | value-in_default-via-in-Some+in_default w ↦
          let other = w.in_default.field-0-test in
          value_scalar c.args.m.now _ _ _ _ w.in_default.ensures.left other.0.0.1 other.0.1 other.1 c.scalar.ensures
      | value-in_default-via-in_default w ↦
          value_end_lem c.args.m.now _ _ (rw w.in_default.is at c.byte_at.ensures.left) c.scalar.ensures
    ]
