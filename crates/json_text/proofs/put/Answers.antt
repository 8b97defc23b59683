-- The bytes stand behind those that stood.
use mathlib.Core.Path.{refl}
use native.Mathlib.Omega.{arith}
use Rattle.json_text.proofs.Buffer.{put_bytes}
use Rattle.json_text.proofs.put.Goals as goal

pub returns : goal.returns
returns c =
    put_bytes c.args.w.now c.args.bytes.now _ c.args.n _ refl (omega arith) c.requires.1 c.copy_from_slice.ensures.after
