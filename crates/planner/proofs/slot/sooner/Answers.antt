-- `planner::slot::sooner` meets its contract.
use Rattle.planner.proofs.BestLaws.{sooner_yes, sooner_no}
use Rattle.planner.proofs.slot.sooner.Goals as goal

pub returns-then-start-run : goal.returns-then-start-run
returns-then-start-run c = sooner_yes _ _ _ _ c.if-start-run.true

pub returns : goal.returns
returns c = sooner_no _ _ _ _ c.if-start-run.false
