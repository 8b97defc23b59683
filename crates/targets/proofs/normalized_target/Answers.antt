-- The target that `normalize_string_target` gives, built or as it is.
use Rattle.std.proofs.Common.{sym, ◌∙◌, ap, []}
use Rattle.definition.specs.Exports.{target_path}
use Rattle.targets.proofs.Targets.{appended, plain_target, starred_target, folder_star, folder_both, folder_error, directory_is}
use Rattle.targets.proofs.normalized_target.Goals as goal

pub returns-in-Plain-clause-result_after : goal.returns-in-Plain-clause-result_after
returns-in-Plain-clause-result_after c q a = c.target_path.ensures.result_after q a.directory
    ∙ ap (target_path q) (plain_target a c.args.t.now c.in-Plain.is)

pub returns-in-Starred-clause-result_after : goal.returns-in-Starred-clause-result_after
returns-in-Starred-clause-result_after c q a =
    c.built_target.ensures.result_after q _ a.directory c.substitute.ensures
    ∙ ap (target_path q) (starred_target a c.args.t.now c.in-Starred.is)

pub returns-in-Folder-clause-result_after : goal.returns-in-Folder-clause-result_after
returns-in-Folder-clause-result_after c q a =
    c.built_target-in-Folder.ensures.result_after q _ a.directory c.substitute-in-Folder.ensures
    ∙ ap (target_path q) (folder_star a c.args.t.now c.in-Folder.is (sym c.if-contains.ensures))

pub returns-in-Folder-2-clause-result_after : goal.returns-in-Folder-2-clause-result_after
returns-in-Folder-2-clause-result_after c q a =
    c.built_target-in-Folder-2.ensures.result_after q _ a.directory (c.add_extension.ensures ∙ appended _ _)
    ∙ ap (target_path q)
    (folder_both a c.args.t.now c.in-Folder.is (sym c.if-contains.ensures) (sym c.if-ends_with.ensures))

pub returns-in-Folder-3-clause-result_after : goal.returns-in-Folder-3-clause-result_after
returns-in-Folder-3-clause-result_after c q a =
    directory_is q []
    ∙ ap (target_path q)
    (folder_error a c.args.t.now c.in-Folder.is (sym c.if-contains.ensures) (sym c.if-ends_with.ensures))
