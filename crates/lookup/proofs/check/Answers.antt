-- The checks one after another, by the laws of `Checking`.
use Rattle.std.proofs.Common.{rules}
use mathlib.Core.Path.{sym, ◌∙◌}
use native.Mathlib.Omega.{arith}
use Rattle.lookup.specs.Meaning.{question_of}
use Rattle.lookup.proofs.Checking.{by_work, by_settings, by_listing, by_specifier, by_start, by_none}
use Rattle.lookup.proofs.check.Goals as goal

pub returns-then-work-lt32768 : goal.returns-then-work-lt32768
returns-then-work-lt32768 c m e = by_work (question_of c.args.question) m (omega arith)

pub returns-then-not-check : goal.returns-then-not-check
returns-then-not-check c m e = by_settings (question_of c.args.question) m (omega arith) (sym c.if-not-check.true ∙ c.check.ensures)

pub returns-in_err-check : goal.returns-in_err-check
returns-in_err-check c m e =
    let h = by_listing (question_of c.args.question) m (omega arith) (sym c.if-not-check.false ∙ c.check.ensures) _ c.check-2.ensures _ c.in_err-check.was in
    search rules

pub returns-then-not-check-2 : goal.returns-then-not-check-2
returns-then-not-check-2 c m e =
    by_specifier (question_of c.args.question) m (omega arith) (sym c.if-not-check.false ∙ c.check.ensures) _
    c.check-2.ensures c.in_ok-check.was (sym c.if-not-check-2.true ∙ c.check-3.ensures)

pub returns-then-not-is_directory : goal.returns-then-not-is_directory
returns-then-not-is_directory c m e =
    by_start (question_of c.args.question) m (omega arith) (sym c.if-not-check.false ∙ c.check.ensures) _
    c.check-2.ensures c.in_ok-check.was (sym c.if-not-check-2.false ∙ c.check-3.ensures)
    (sym c.if-not-is_directory.true ∙ c.is_directory.ensures)

pub returns : goal.returns
returns c m e =
    by_none (question_of c.args.question) m (omega arith) (sym c.if-not-check.false ∙ c.check.ensures) _
    c.check-2.ensures c.in_ok-check.was (sym c.if-not-check-2.false ∙ c.check-3.ensures)
    (sym c.if-not-is_directory.false ∙ c.is_directory.ensures)
