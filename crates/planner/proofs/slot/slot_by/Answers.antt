-- `planner::slot::slot_by` meets its contract.
use Rattle.planner.proofs.BestLaws.{found_if}
use Rattle.planner.proofs.slot.slot_by.Goals as goal

pub returns : goal.returns
returns c = rw c.then_some.ensures (found_if _ _)
