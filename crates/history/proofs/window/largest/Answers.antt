-- `history::window::largest` meets its contract.
use native.Mathlib.Omega.{arith}
use Rattle.history.proofs.SeenLaws.{seen_start, seen_more, seen_done}
use Rattle.history.proofs.window.largest.Goals as goal

pub loop-i-init : goal.loop-i-init
loop-i-init c = seen_start _

pub loop-i-preserved : goal.loop-i-preserved
loop-i-preserved c = seen_more _ _ _ _ c.max.ensures c.requires c.loop-i-test.true c.loop-i.invariant

pub returns : goal.returns
returns c = seen_done _ _ _ (omega arith) c.loop-i.invariant
