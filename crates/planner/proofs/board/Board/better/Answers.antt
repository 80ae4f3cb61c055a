-- `planner::board::Board::better` meets its contract.
use Rattle.planner.proofs.BestLaws.{better_none}
use Rattle.planner.proofs.board.Board.better.Goals as goal

pub returns-then-best-from : goal.returns-then-best-from
returns-then-best-from c = better_none _ _ _ _ _ _ _ c.if-best-from.true
