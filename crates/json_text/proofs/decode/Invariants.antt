use Rattle.std.proofs.Common.{◌≡◌, length}
use Rattle.json_text.proofs.Buffer.{Going}
use Rattle.json_text.proofs.decode.Given as goal

abbrev pub invariant-loop-i : goal.invariant-loop-i
invariant-loop-i l = (length l.w ≡ length l.initial.w) × Going l.m l.at l.initial.w l.w l.place l.i l.len
