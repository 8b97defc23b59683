-- A key with a star goes by what stands before and behind it, and any other is a folder's or none.
use Rattle.std.proofs.Common.{sym, ◌∙◌}
use Rattle.laws.specs.TextLaws.{before_after_length}
use Rattle.laws.specs.TextSteps.{before_inside}
use Rattle.definition.specs.Text.{star}
use Rattle.targets.proofs.Keys.{has, has_not, match_star, match_folder, base_part, trailer_part}
use Rattle.targets.proofs.pattern_match.Goals as goal

pub returns-then-star-key : goal.returns-then-star-key
returns-then-star-key c =
    let key = c.args.key.now in
    let e = c.find-star.ensures in
    let h = has star key _ e c.if-star-key.true in
    c.star_match.ensures
    ∙ rw (base_part key _ e h, trailer_part key _ e h)
    (match_star c.args.match_key.now key (sym c.if-not-is_subpath_key.ensures) h)

pub star_match-requires : goal.star_match-requires
star_match-requires c =
    let key = c.args.key.now in
    let e = c.find-star.ensures in
    let h = has star key _ e c.if-star-key.true in
    rw (base_part key _ e h, trailer_part key _ e h) (before_after_length star key h)

pub returns-else-star-key : goal.returns-else-star-key
returns-else-star-key c =
    let key = c.args.key.now in
    c.folder_match.ensures
    ∙ match_folder c.args.match_key.now key (sym c.if-not-is_subpath_key.ensures)
    (has_not star key _ c.find-star.ensures c.if-star-key.false (before_inside star key))
