-- What the loop of `planner::senders::Senders::fault_set` keeps.
use Rattle.planner.proofs.SenderLaws.{Over}
use Rattle.planner.proofs.FaultLaws.{Faulting}
use Rattle.planner.proofs.senders.Senders.fault_set.Given as goal

abbrev pub invariant-loop-x : goal.invariant-loop-x
invariant-loop-x l =
    let walk = l.x-iterator in
    let all = l.fn.self in
    Over all.links.now all.board.now walk.links.now walk.board.now × Faulting all.links.now all.board.now all.left l.primary walk.left l.weak
