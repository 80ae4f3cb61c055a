-- `planner::inputs::ready_on` meets its contract.
use Rattle.planner.proofs.InputLaws.{ready_own, ready_all}
use Rattle.planner.proofs.inputs.ready_on.Goals as goal

pub returns-then-n-ready : goal.returns-then-n-ready
returns-then-n-ready c = ready_own _ _ c.if-n-ready.true

pub returns-else-n-ready : goal.returns-else-n-ready
returns-else-n-ready c = ready_all _ _ c.if-n-ready.false
