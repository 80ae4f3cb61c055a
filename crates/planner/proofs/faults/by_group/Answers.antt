-- `planner::faults::by_group` meets its contract.
use mathlib.Core.Path.{refl}
use Rattle.planner.proofs.PeerLaws.{peers_start, peers_more}
use Rattle.planner.proofs.faults.by_group.Goals as goal

pub loop-i-init : goal.loop-i-init
loop-i-init c = peers_start _ _ refl

pub loop-i-preserved : goal.loop-i-preserved
loop-i-preserved c = peers_more _ _ _ _ c.loop-i.invariant (c.requires.most _ c.loop-i-test.true) c.bit_of.ensures
