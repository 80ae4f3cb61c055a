-- `planner::senders::Senders::gather` meets its contract.
use Rattle.planner.proofs.InputLaws.{given}
use Rattle.planner.proofs.senders.Senders.gather.Goals as goal

pub returns : goal.returns
returns c = given _ _ _ _ _ _ c.farthest-far.ensures c.own_time-own.ensures
