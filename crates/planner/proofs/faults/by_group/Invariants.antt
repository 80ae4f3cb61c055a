-- What the loop of `planner::faults::by_group` keeps.
use Rattle.planner.specs.Faults.{Peers}
use Rattle.planner.proofs.faults.by_group.Given as goal

abbrev pub invariant-loop-i : goal.invariant-loop-i
invariant-loop-i l = Peers l.nodes l.i l.peers
