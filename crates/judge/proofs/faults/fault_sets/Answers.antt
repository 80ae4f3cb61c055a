-- `judge::faults::fault_sets` meets its contract.
use native.Mathlib.Omega.{arith}
use Rattle.judge.proofs.GatherLaws.{fill_more}
use Rattle.judge.proofs.faults.fault_sets.Goals as goal

pub loop-j-preserved : goal.loop-j-preserved
loop-j-preserved c = fill_more _ _ _ _ _ c.loop-j.invariant (omega arith) _ c.gather_task.ensures.gathers
