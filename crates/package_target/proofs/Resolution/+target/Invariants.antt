-- The depth falls with each bracket. In each loop, what is left gives, from the context so far, what the whole gives.
use Rattle.std.proofs.Common.{◌≡◌, true, ◌+◌, ◌-◌, ◌*◌, length}
use Rattle.definition.specs.Json.{Json}
use Rattle.definition.specs.Exports.{Request, PACKAGE_TARGET_RESOLVE}
use Rattle.targets.specs.Contexts.{context_of}
use Rattle.targets.specs.Answers.{Texted}
use Rattle.package_json.specs.declared.Kind.TheVariants.{Array, Object}
use Rattle.package_target.specs.Places.{Stands, kind_of}
use Rattle.package_target.specs.Conditions.{places}
use Rattle.package_target.specs.Answers.{Requested, SameBuffers, is_nothing}
use Rattle.package_target.proofs.Loops.{ArrayLeft, ObjectLeft}
use Rattle.package_target.proofs.Resolution.+target.Given as goal

abbrev pub decreases-array : goal.decreases-array
decreases-array l = 2 * l.depth

abbrev pub decreases-object : goal.decreases-object
decreases-object l = 2 * l.depth

abbrev pub decreases-target : goal.decreases-target
decreases-target l = 2 * l.depth + 1

abbrev pub invariant-array-loop-element : goal.invariant-array-loop-element
invariant-array-loop-element l = record {
  same : SameBuffers l.initial.buffers l.buffers;
  texted : Texted l.buffers.path.now l.answer.outcome;
  left : (q : Request) (j : Json) → Requested q l.self → Stands l.self.manifest.now l.depth l.at j → Array ≡ kind_of j
      → ArrayLeft l.self.manifest.now (l.depth - 1) q l.element-iterator l.buffers.path.now l.answer
      (PACKAGE_TARGET_RESOLVE q j (context_of l.self.manifest.now l.fn.c));
}

abbrev pub invariant-object-loop-member : goal.invariant-object-loop-member
invariant-object-loop-member l = record {
  same : SameBuffers l.initial.buffers l.buffers;
  texted : Texted l.buffers.path.now l.answer.outcome;
  nothing : is_nothing l.answer.outcome ≡ true;
  left : (q : Request) (j : Json) → Requested q l.self → Stands l.self.manifest.now l.depth l.at j → Object ≡ kind_of j
      → ObjectLeft l.self.manifest.now (l.depth - 1) q (places (length l.self.manifest.now) l.values) l.member-iterator
      (context_of l.self.manifest.now l.answer.context)
      (PACKAGE_TARGET_RESOLVE q j (context_of l.self.manifest.now l.fn.c));
}
