-- `judge::overlaps::least_pair` meets its contract.
use Rattle.judge.proofs.SweepLaws.{nodes_start, nodes_more}
use Rattle.judge.proofs.overlaps.least_pair.Goals as goal

pub loop-m-init : goal.loop-m-init
loop-m-init c = nodes_start _ _ _

pub loop-m-preserved : goal.loop-m-preserved
loop-m-preserved c = nodes_more _ _ _ _ _ c.loop-m.invariant _ c.pair_within-noted.ensures
