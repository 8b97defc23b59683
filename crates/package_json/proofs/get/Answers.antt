-- By one member more at a time; the last value of the name counts.
use Rattle.std.proofs.Common.{drop, sym, ◌∙◌, ap}
use Rattle.package_json.specs.Cursors.{placed}
use Rattle.package_json.proofs.Parts.{get_is, found_in, found_end, found_here, found_other}
use Rattle.package_json.proofs.get.Goals as goal

pub loop-member-init : goal.loop-member-init
loop-member-init c =
    rw c.into_iter-member-iterator.ensures.into_iter_gives (record {
      manifest = c.members-member-items.ensures.manifest;
      same =
          get_is c.args.name.now (drop c.args.at c.args.m.now)
          ∙ ap (found_in _ _) (sym c.members-member-items.ensures.are);
    })

pub loop-member-preserved-then-name_is : goal.loop-member-preserved-then-name_is
loop-member-preserved-then-name_is c =
    let g = c.loop-member.invariant in
    let x = c.in-Some.ensures.steps in
    record {
      manifest = x.manifest ∙ g.manifest;
      same =
          g.same
          ∙ found_here _ _ x.first (rw g.manifest c.if-name_is.ensures)
          (ap (λ m. placed m c.in-Some.member.value) (sym g.manifest) ∙ x.value);
    }

pub loop-member-preserved : goal.loop-member-preserved
loop-member-preserved c =
    let g = c.loop-member.invariant in
    let x = c.in-Some.ensures.steps in
    record {
      manifest = x.manifest ∙ g.manifest;
      same = g.same ∙ found_other _ _ x.first (rw g.manifest c.if-name_is.ensures);
    }

pub returns : goal.returns
returns c = sym (c.loop-member.invariant.same ∙ found_end _ _ c.in-None.ensures.steps)
