-- Each test decides as the definition's.
use Rattle.std.proofs.Common.{sym, ◌∙◌, ap}
use Rattle.definition.specs.Text.{is_utf8_from}
use Rattle.laws.specs.TextSteps.{utf8_first, utf8_low, utf8_high, utf8_next}
use Rattle.utf8.proofs.next.Goals as goal
use Rattle.utf8.proofs.next.Goals.{then-b-owed-via-then-b-owed, then-b-owed-via-else-b-owed+then-owed-b}

pub returns-then-owed-eq0 : goal.returns-then-owed-eq0
returns-then-owed-eq0 c s = utf8_first _ s _ _ _ c.if-owed-eq0.true ∙ ap (is_utf8_from s) (sym c.opens.ensures)

pub returns-then-b-owed : goal.returns-then-b-owed
returns-then-b-owed c s =
    elim c.then-b-owed.branch [
      | then-b-owed-via-then-b-owed w ↦ utf8_low _ s _ _ _ c.if-owed-eq0.false w.if-b-owed.true
      | then-b-owed-via-else-b-owed+then-owed-b w ↦ utf8_high _ s _ _ _ c.if-owed-eq0.false w.if-owed-b.true
    ]

pub returns : goal.returns
returns c s = utf8_next _ s _ _ _ c.if-owed-eq0.false c.if-b-owed.false c.if-owed-b.false
