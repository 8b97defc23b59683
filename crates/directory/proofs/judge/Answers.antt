-- The check finds the place of the root, or a fault.
use Rattle.directory.proofs.Manifests.{root_found, root_told, fault_told, judged_root, judged_fault}
use Rattle.directory.proofs.judge.Goals as goal

pub returns-in-Ok-clause-done : goal.returns-in-Ok-clause-done
returns-in-Ok-clause-done c L G =
    judged_root _ _ _ ((root_told _ c.in-Ok.root (root_found _ _ (rw c.in-Ok.is at c.check.ensures))).seen G)

pub returns-in-Err-clause-done : goal.returns-in-Err-clause-done
returns-in-Err-clause-done c L G =
    judged_fault _ _ _ (fault_told G _ _ (rw c.in-Err.is at c.check.ensures)) (c.fault_ending.ensures.done L)
