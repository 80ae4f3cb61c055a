-- What the loop of `planner::senders::Senders::farthest` keeps.
use Rattle.planner.proofs.SenderLaws.{Over}
use Rattle.planner.proofs.InputLaws.{Reaching}
use Rattle.planner.proofs.senders.Senders.farthest.Given as goal

abbrev pub invariant-loop-x : goal.invariant-loop-x
invariant-loop-x l =
    let walk = l.x-iterator in
    let all = l.fn.self in
    Over all.links.now all.board.now walk.links.now walk.board.now × Reaching all.links.now all.board.now all.left l.set walk.left l.reach
