-- By where the string ends, where its first quote or backslash stands, and what was decoded.
use mathlib.Core.Path.{sym, ◌∙◌}
use Prim.Native.Nat.{◌+◌}
use Rattle.json_text.proofs.Strings.{quoted_read, text_plain, starts_quote_lem, quote_there, plain_stop_at, escaped, no_escape}
use Rattle.json_text.proofs.Texts.{told_none, told_plain, told_short, told_work}
use Rattle.json_text.proofs.Laws.{read_some, read_none}
use Rattle.json_text.proofs.Buffer.{gave_some, gave_none}
use Rattle.json_text.proofs.read_text.Goals as goal

pub returns-in_err-ok : goal.returns-in_err-ok
returns-in_err-ok c =
    rw c.from_residual.ensures (told_none c.args.m.now c.args.at _ (read_none _ c.quoted.ensures c.ok.ensures.value c.in_err-ok.was).1)

pub returns-then-eq : goal.returns-then-eq
returns-then-eq c =
    let q = read_some _ c.quoted.ensures c.ok.ensures.value c.in_ok-ok.was in
    let u = starts_quote_lem _ (quote_there _ _ _ c.byte_at.ensures.left (sym c.eq.ensures ∙ c.if-eq.true)) in
    let stop = c.plain_end-stop in
    told_plain c.args.m.now c.args.at _ q.1
    (text_plain c.args.m.now (c.args.at + 1) stop.result u.0 (quoted_read c.args.m.now c.args.at q.1) stop.ensures u.1)
    (no_escape _ u.0 (plain_stop_at c.args.m.now (c.args.at + 1) stop.result stop.ensures ∙ u.1))

pub returns-then-w-lt-ROOM : goal.returns-then-w-lt-ROOM
returns-then-w-lt-ROOM c =
    let q = read_some _ c.quoted.ensures c.ok.ensures.value c.in_ok-ok.was in
    let e = escaped c.args.m.now c.args.at q.1 _ c.plain_end-stop.ensures (quote_there _ _ _ c.byte_at.ensures.left (sym c.eq.ensures ∙ c.if-eq.false)) in
    told_short c.args.m.now c.args.at _ q.1 e c.if-w-lt-ROOM.true

pub returns-in_err-text : goal.returns-in_err-text
returns-in_err-text c =
    let q = read_some _ c.quoted.ensures c.ok.ensures.value c.in_ok-ok.was in
    let f = gave_none _ c.decode.ensures c.ok-2.ensures.value c.in_err-text.was in
    let z = sym (quoted_read c.args.m.now c.args.at q.1) ∙ f.1 in
    cc

pub returns : goal.returns
returns c =
    let q = read_some _ c.quoted.ensures c.ok.ensures.value c.in_ok-ok.was in
    let e = escaped c.args.m.now c.args.at q.1 _ c.plain_end-stop.ensures (quote_there _ _ _ c.byte_at.ensures.left (sym c.eq.ensures ∙ c.if-eq.false)) in
    let d = gave_some _ c.decode.ensures c.ok-2.ensures.value c.in_ok-text.was in
    let z = sym d.text ∙ quoted_read c.args.m.now c.args.at q.1 in
    told_work c.args.m.now c.args.at _ q.1 e _ _ c.if-w-lt-ROOM.false c.decode.auto.w d.room (cc) d.kept
