-- `normalize_relative`: the parts behind "/", or all of them, are pushed; they make the path no longer, so it has room
-- for them.
use native.Mathlib.Omega.{arith}
use mathlib.Core.Path.{◌≡◌, ◌∙◌, ap}
use Prim.Native.Nat.{◌-◌}
use lib.ListN.{length, drop, take, length-drop, length-take}
use lib.Seq.{take_all}
use Rattle.definition.specs.Path.{built, limited}
use Rattle.laws.specs.PathLaws.{limited_fits, limited_long, root_of}
use Rattle.path.proofs.Parts.{root_of_lem}
use Rattle.path.proofs.normalize_relative.Goals as goal

pub returns-then-p-gt-LIMIT : goal.returns-then-p-gt-LIMIT
returns-then-p-gt-LIMIT c = c.from.ensures ∙ rw (limited_long _ c.if-p-gt-LIMIT.true)

pub slice_bounds-push_relative-count : goal.slice_bounds-push_relative-count
slice_bounds-push_relative-count c =
    let p = c.args.p.now in
    omega (arith, ap length c.root-head.ensures, (root_of_lem p).short)

pub slice_bounds-push_relative-start : goal.slice_bounds-push_relative-start
slice_bounds-push_relative-start c =
    let p = c.args.p.now in
    omega (arith, ap length c.root-head.ensures, (root_of_lem p).short)

pub push_relative-requires : goal.push_relative-requires
push_relative-requires c =
    let p = c.args.p.now in
    let e = c.root-head.ensures in
    let s = (root_of_lem p).short in
    let n = (root_of_lem p).none in
    let l = ap length e in
    record {
      text = root_of p;
      is = c.from-2.ensures ∙ ap limited e ∙ limited_fits (root_of p) (omega arith);
      fits = simp (length-take, length-drop) (omega arith);
    }

pub returns : goal.returns
returns c =
    let p = c.args.p.now in
    let e = c.root-head.ensures in
    let l = ap length e in
    let s = (root_of_lem p).short in
    let f : limited (root_of p) ≡ built (root_of p) = limited_fits (root_of p) (omega arith) in
    let d : take (length p - length (root_of p)) (drop (length (root_of p)) p) ≡ drop (length (root_of p)) p =
    take_all (length p - length (root_of p)) (drop (length (root_of p)) p)
    (omega (arith, length-drop (length (root_of p)) p)) in
    c.push_relative.ensures ∙ rw (c.from-2.ensures, e, f, d, (root_of_lem p).rest, limited_fits p (omega arith))
