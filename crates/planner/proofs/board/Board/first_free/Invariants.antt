-- What the loop of `planner::board::Board::first_free` keeps.
use Prim.Native.Nat.{◌+◌, ◌*◌}
use Rattle.copies.specs.Table.{copy_count}
use Rattle.planner.proofs.LeapLaws.{Sweeping}
use Rattle.planner.proofs.board.Board.first_free.Given as goal

abbrev pub invariant-loop-p : goal.invariant-loop-p
invariant-loop-p l =
    Sweeping l.self.copies l.ask.set l.run l.self.layout.order (l.ask.node * copy_count) (l.ask.node * copy_count + l.ask.count) l.from l.p l.s
