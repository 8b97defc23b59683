-- The path that was built is the definition's.
use Rattle.files.proofs.Files.{extension_tried}
use Rattle.files.proofs.try_extension.Goals as goal

pub returns-clause-done : goal.returns-clause-done
returns-clause-done c = λ G. extension_tried G _ _ (c.try_path.ensures.done G) _ c.add_extension-path.ensures
