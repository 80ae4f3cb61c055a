-- `planner::places::plan_of` meets its contract.
use Rattle.planner.proofs.ListLaws.{list_start, list_more}
use Rattle.planner.proofs.places.plan_of.Goals as goal

pub loop-j-init : goal.loop-j-init
loop-j-init c = list_start _ _ _ c.empty-plan.ensures

pub loop-j-preserved : goal.loop-j-preserved
loop-j-preserved c = rw (c.place_of.ensures, c.at.ensures, c.at-in-loop-j.ensures) (list_more _ _ _ _ c.loop-j.invariant)
