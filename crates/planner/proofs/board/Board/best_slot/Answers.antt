-- `planner::board::Board::best_slot` meets its contract.
use mathlib.Core.Path.{sym, ◌∙◌}
use Rattle.planner.proofs.BestLaws.{first_best, best_passed, best_next, start_at_lem}
use Rattle.planner.proofs.board.Board.best_slot.Goals as goal
use Rattle.planner.proofs.board.Board.best_slot.Goals.{then-may_run, else-may_run}

pub loop-n-init : goal.loop-n-init
loop-n-init c = first_best _ _ _ c.nowhere-best.ensures

pub loop-n-preserved : goal.loop-n-preserved
loop-n-preserved c =
    elim c.if-may_run.branch [
      | then-may_run w ↦
          best_next _ _ c.requires _ _ c.loop-n.invariant c.loop-n-test.true
          (sym c.may_run.ensures ∙ w.if-may_run.true) _ (start_at_lem _ _ _ _ _ w.ready_on.ensures w.max-from.ensures) _
          (w.best-is ∙ w.better-best.ensures)
      | else-may_run w ↦
          best_passed _ _ c.requires _ _ c.loop-n.invariant c.loop-n-test.true _ (sym c.may_run.ensures ∙ w.if-may_run.false) w.best-is
    ]
