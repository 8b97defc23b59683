-- Each loop goes on with what is left, or ends with the answer of the whole.
use Rattle.std.proofs.Common.{refl, sym, ◌∙◌, ap, length}
use Rattle.targets.specs.declared.Answer.{Answer}
use Rattle.targets.specs.Contexts.{context_of}
use Rattle.targets.specs.Answers.{answer_of}
use Rattle.package_target.specs.Answers.{is_nothing}
use Rattle.package_target.specs.Conditions.{places}
use Rattle.package_target.proofs.Conditions.{none_written}
use Rattle.package_target.proofs.Loops.{resolve_scalar, text_leaf, array_shallow, object_shallow, array_start, object_start, array_end, array_stop, array_on, nothing_is, object_end, object_skip, object_stop, object_on}
use Rattle.package_target.proofs.Resolution.+target.Goals as goal

pub array-returns-then-depth-eq0-clause-result_after : goal.array-returns-then-depth-eq0-clause-result_after
array-returns-then-depth-eq0-clause-result_after t c q j a h e = absurd (array_shallow h e c.if-depth-eq0.true)

pub array-loop-element-init : goal.array-loop-element-init
array-loop-element-init t c = record {
  same = record { work = refl; path = refl };
  texted = rw c.new-answer.ensures tt;
  left = λ q j a h e.
      let m = c.args.self.now.manifest.now in
      let start = c.elements-element-items.ensures in
      rw c.into_iter-element-iterator.ensures.into_iter_gives
      (array_start m c.args.depth c.args.at q j (context_of m c.args.c) h c.if-depth-eq0.false e _
      start.manifest start.are _ c.new-answer.result (ap (answer_of m q _) c.new-answer.ensures));
}

pub array-returns-then-ends_array-clause-result_after : goal.array-returns-then-ends_array-clause-result_after
array-returns-then-ends_array-clause-result_after t c q j a h e =
    array_stop (c.loop-element.invariant.left q j a h e) c.in-Some.ensures.steps _ c.target-answer.result
    (λ j s. c.target-answer.ensures.result_after q j a s) (sym c.if-ends_array.ensures)

pub array-loop-element-preserved : goal.array-loop-element-preserved
array-loop-element-preserved t c =
    let first = c.loop-element.invariant.same in
    let then_same = c.target-answer.ensures.same in
    record {
      same = record { work = then_same.work ∙ first.work; path = then_same.path ∙ first.path };
      texted = c.target-answer.ensures.texted;
      left = λ q j a h e.
          array_on (c.loop-element.invariant.left q j a h e) c.in-Some.ensures.steps _ c.target-answer.result
          (λ j s. c.target-answer.ensures.result_after q j a s) (sym c.if-ends_array.ensures);
    }

pub array-returns-clause-result_after : goal.array-returns-clause-result_after
array-returns-clause-result_after t c q j a h e =
    array_end (c.loop-element.invariant.left q j a h e) c.in-None.ensures.steps

pub object-returns-then-depth-eq0-clause-result_after : goal.object-returns-then-depth-eq0-clause-result_after
object-returns-then-depth-eq0-clause-result_after t c q j a h e = absurd (object_shallow h e c.if-depth-eq0.true)

pub object-loop-member-init : goal.object-loop-member-init
object-loop-member-init t c = record {
  same = record { work = refl; path = refl };
  texted = rw c.new-answer.ensures tt;
  nothing = ap (λ (r : Answer). is_nothing r.outcome) c.new-answer.ensures;
  left = λ q j a h e.
      let m = c.args.self.now.manifest.now in
      let start = c.members-member-items.ensures in
      let conditions = a.conditions ∙ sym c.of-conditions.ensures in
      rw (c.into_iter-member-iterator.ensures.into_iter_gives, c.new-answer.ensures)
      (object_start m c.args.depth c.args.at q j (context_of m c.args.c) h c.if-depth-eq0.false e _
      start.manifest start.are _
      (λ d ms s. rw (conditions, sym (none_written (length m) 256)) (c.put_last_values.ensures d ms s)));
}

pub object-returns-then-not-is_nothing-clause-result_after : goal.object-returns-then-not-is_nothing-clause-result_after
object-returns-then-not-is_nothing-clause-result_after t c q j a h e =
    let turn = c.take_turn in
    sym (object_stop (c.loop-member.invariant.left q j a h e) c.in-Some.ensures.steps
    (a.conditions ∙ sym c.of-conditions.ensures) c.of-conditions.result.few
    (places (length c.args.self.now.manifest.now) turn.new.values) turn.result turn.ensures
    c.in-Some-take_turn.is _ c.target-answer.result
    (λ j s. c.target-answer.ensures.result_after q j a s) (sym c.if-not-is_nothing.ensures))

pub object-loop-member-preserved-else-not-is_nothing : goal.object-loop-member-preserved-else-not-is_nothing
object-loop-member-preserved-else-not-is_nothing t c =
    let first = c.loop-member.invariant.same in
    let then_same = c.target-answer.ensures.same in
    let turn = c.take_turn in
    record {
      same = record { work = then_same.work ∙ first.work; path = then_same.path ∙ first.path };
      texted = c.target-answer.ensures.texted;
      nothing = sym c.if-not-is_nothing.ensures;
      left = λ q j a h e.
          object_on (c.loop-member.invariant.left q j a h e) c.in-Some.ensures.steps
          (a.conditions ∙ sym c.of-conditions.ensures) c.of-conditions.result.few
          (places (length c.args.self.now.manifest.now) turn.new.values) turn.result turn.ensures
          c.in-Some-take_turn.is _ c.target-answer.result
          (λ j s. c.target-answer.ensures.result_after q j a s) (sym c.if-not-is_nothing.ensures);
    }

pub object-loop-member-preserved : goal.object-loop-member-preserved
object-loop-member-preserved t c =
    let turn = c.take_turn in
    record {
      same = c.loop-member.invariant.same;
      texted = c.loop-member.invariant.texted;
      nothing = c.loop-member.invariant.nothing;
      left = λ q j a h e.
          object_skip (c.loop-member.invariant.left q j a h e) c.in-Some.ensures.steps
          (a.conditions ∙ sym c.of-conditions.ensures) c.of-conditions.result.few
          (places (length c.args.self.now.manifest.now) turn.new.values) turn.result turn.ensures
          c.in_default.is;
    }

pub object-returns-clause-result_after : goal.object-returns-clause-result_after
object-returns-clause-result_after t c q j a h e =
    let m = c.args.self.now.manifest.now in
    nothing_is q (context_of m c.loop-member.answer.context) _ _ c.loop-member.invariant.nothing
    ∙ sym (object_end (c.loop-member.invariant.left q j a h e) c.in-None.ensures.steps)

pub target-returns-in-Scalar-clause-result_after : goal.target-returns-in-Scalar-clause-result_after
target-returns-in-Scalar-clause-result_after t c q j a h =
    let m = c.args.self.now.manifest.now in
    ap (answer_of m q _) c.new.ensures
    ∙ sym (resolve_scalar q j (context_of m c.args.c) (c.in-Scalar.ensures _ j h))

pub target-returns-in-String-clause-result_after : goal.target-returns-in-String-clause-result_after
target-returns-in-String-clause-result_after t c q j a h =
    let m = c.args.self.now.manifest.now in
    text_leaf m c.args.depth c.args.at q j (context_of m c.args.c) h _ (c.in-String.ensures _ j h)
    (λ d s g. c.string_target.ensures.result_after q d s a.asked g)
