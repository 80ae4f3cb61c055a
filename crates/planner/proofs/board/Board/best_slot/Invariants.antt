-- What the loop of `planner::board::Board::best_slot` keeps.
use Rattle.planner.proofs.BestLaws.{Best}
use Rattle.planner.proofs.board.Board.best_slot.Given as goal

abbrev pub invariant-loop-n : goal.invariant-loop-n
invariant-loop-n l = Best l.self l.search l.n l.best
