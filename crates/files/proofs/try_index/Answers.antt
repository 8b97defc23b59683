-- The path that was built is the definition's.
use Rattle.files.proofs.Files.{index_tried}
use Rattle.files.proofs.try_index.Goals as goal

pub returns-clause-done : goal.returns-clause-done
returns-clause-done c = λ G. index_tried G _ _ (c.try_path.ensures.done G) _ _ c.add_name_and_extension-path.ensures
