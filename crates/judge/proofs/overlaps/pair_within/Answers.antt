-- `judge::overlaps::pair_within` meets its contract.
use native.Mathlib.Omega.{arith}
use Rattle.judge.proofs.SweepLaws.{within_more, within_done}
use Rattle.judge.proofs.overlaps.pair_within.Goals as goal

pub loop-p-preserved : goal.loop-p-preserved
loop-p-preserved c = within_more _ _ _ _ _ _ _ c.loop-p.invariant (omega arith) _ c.pair_behind-noted.ensures

pub returns : goal.returns
returns c = within_done _ _ _ _ _ _ _ c.loop-p.invariant (omega arith)
