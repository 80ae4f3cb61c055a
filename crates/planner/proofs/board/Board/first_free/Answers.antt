-- `planner::board::Board::first_free` meets its contract.
use native.Mathlib.Omega.{arith}
use Rattle.planner.proofs.LeapLaws.{sweep_stop, sweep_more, sweep_done, swept_all}
use Rattle.planner.proofs.board.Board.first_free.Goals as goal

pub returns-then-s-run : goal.returns-then-s-run
returns-then-s-run c =
    record {
      upper_bound = c.loop-p.invariant.soon;
      value = swept_all _ _ _ _ _ _ _ _ (sweep_stop _ _ _ _ _ _ _ _ _ _ c.loop-p.invariant c.loop-p-test.true
          c.entry_at-k.ensures (omega (arith, c.if-s-run.true)));
    }

pub loop-p-preserved : goal.loop-p-preserved
loop-p-preserved c =
    sweep_more _ _ _ _ _ _ _ _ _ _ c.loop-p.invariant c.loop-p-test.true c.entry_at-k.ensures
    c.if-s-run.false c.requires.ends _ _ c.pick.ensures c.max-s.ensures

pub returns : goal.returns
returns c =
    record {
      upper_bound = c.loop-p.invariant.soon;
      value = swept_all _ _ _ _ _ _ _ _ (sweep_done _ _ _ _ _ _ _ _ _ c.loop-p.invariant c.loop-p-test.false);
    }
