-- What the loop of `planner::senders::Senders::own_time` keeps.
use Rattle.planner.proofs.SenderLaws.{Over}
use Rattle.planner.proofs.InputLaws.{Owning}
use Rattle.planner.proofs.senders.Senders.own_time.Given as goal

abbrev pub invariant-loop-x : goal.invariant-loop-x
invariant-loop-x l =
    let walk = l.x-iterator in
    let all = l.fn.self in
    Over all.links.now all.board.now walk.links.now walk.board.now × Owning all.links.now all.board.now all.left l.set l.to walk.left l.own
