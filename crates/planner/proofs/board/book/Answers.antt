-- `planner::board::book` meets its contract.
use Rattle.planner.proofs.BookLaws.{stored_booked}
use Rattle.planner.proofs.board.book.Goals as goal

pub returns : goal.returns
returns c = stored_booked _ _ _ _ _ c.put.ensures.1 c.put-2.ensures.1 c.put-2.ensures.0
