-- `planner::inputs::farther` meets its contract.
use Rattle.planner.proofs.InputLaws.{farther_new, farther_old}
use Rattle.planner.proofs.inputs.farther.Goals as goal

pub returns-then-reach-at : goal.returns-then-reach-at
returns-then-reach-at c = farther_new _ _ _ c.if-reach-at.true

pub returns : goal.returns
returns c = farther_old _ _ _ c.if-reach-at.false
