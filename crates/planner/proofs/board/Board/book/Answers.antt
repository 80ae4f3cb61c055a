-- `planner::board::Board::book` meets its contract.
use Rattle.planner.proofs.BookLaws.{lays_next}
use Rattle.planner.proofs.board.Board.book.Goals as goal

pub lay_both-requires : goal.lay_both-requires
lay_both-requires c = lays_next _ _ _ _ c.requires _ c.book.ensures
