-- What the loop of `history::log::read_log` keeps, and what falls.
use Prim.Native.Nat.{◌-◌}
use lib.ListN.{length}
use Rattle.history.proofs.LogLaws.{LogAt}
use Rattle.history.proofs.log.read_log.Given as goal

abbrev pub invariant-loop-at : goal.invariant-loop-at
invariant-loop-at l = LogAt l.log l.times l.at l.window

abbrev pub decreases-loop-at : goal.decreases-loop-at
decreases-loop-at l = length l.log - l.at
