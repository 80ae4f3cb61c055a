-- What the loop of `copies::gather::gather_task` keeps, and what falls.
use Rattle.copies.proofs.GatherLaws.{Gathering}
use Rattle.copies.proofs.gather.gather_task.Given as goal

abbrev pub invariant-loop-left : goal.invariant-loop-left
invariant-loop-left l = Gathering l.so_far l.weak l.sets l.set l.left

abbrev pub decreases-loop-left : goal.decreases-loop-left
decreases-loop-left l = l.left
