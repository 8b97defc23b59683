-- By the manifest's size, its value and what is behind that.
use Rattle.std.proofs.lemmas.Result.{err_from_is_err_and}
use Rattle.package_json.proofs.Whole.{check_long, check_fault, check_more, check_all}
use Rattle.package_json.proofs.check.Goals as goal

pub returns-then-m-gt-SIZE : goal.returns-then-m-gt-SIZE
returns-then-m-gt-SIZE c = check_long c.args.m.now c.if-m-gt-SIZE.true

pub returns-in_err-end : goal.returns-in_err-end
returns-in_err-end c =
    let out = err_from_is_err_and c.from_residual.result c.from_residual.ensures.1 in
    rw (out.1, out.2) (check_fault c.args.m.now c.if-m-gt-SIZE.false _ _ c.mark.ensures c.skip_space-root.ensures c.in_err-end.ensures)

pub returns-then-skip_space-m : goal.returns-then-skip_space-m
returns-then-skip_space-m c =
    check_more c.args.m.now c.if-m-gt-SIZE.false _ _ c.mark.ensures c.skip_space-root.ensures c.in_ok-end.ensures c.skip_space.ensures c.if-skip_space-m.true

pub returns : goal.returns
returns c =
    check_all c.args.m.now c.if-m-gt-SIZE.false _ _ c.mark.ensures c.skip_space-root.ensures c.in_ok-end.ensures c.skip_space.ensures c.if-skip_space-m.false
