-- What was over-long stays so, a text that does not fit makes it so, and any other is written behind the path.
use Rattle.std.proofs.Common.{rules, arith, ◌∙◌}
use Rattle.path.proofs.Steps.{put_over, put_long, overwrite_whole, put_part}
use Rattle.path.proofs.PathBuf.put.Goals as goal

pub returns-then-n-gt-LIMIT : goal.returns-then-n-gt-LIMIT
returns-then-n-gt-LIMIT c = put_over _ _ _ c.if-n-gt-LIMIT.true

pub returns-then-t-n : goal.returns-then-t-n
returns-then-t-n c = put_long _ _ _ (search rules) c.if-n-gt-LIMIT.false (omega arith)

pub returns : goal.returns
returns c =
    put_part _ _ c.args.t.now (search rules) c.if-n-gt-LIMIT.false _
    (c.copy_at.ensures ∙ overwrite_whole c.args.t.now _ (omega arith)) (omega arith)
