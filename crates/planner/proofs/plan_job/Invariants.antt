-- What the loop of `planner::plan_job` keeps.
use Rattle.planner.specs.Tasks.{Planning}
use Rattle.planner.proofs.plan_job.Given as goal

abbrev pub invariant-loop-j : goal.invariant-loop-j
invariant-loop-j l =
    Planning l.job l.links l.j l.board
