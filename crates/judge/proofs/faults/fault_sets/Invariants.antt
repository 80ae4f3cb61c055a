-- What the loop of `judge::faults::fault_sets` keeps.
use lib.ListN.{length}
use Rattle.judge.proofs.GatherLaws.{Filling}
use Rattle.judge.proofs.faults.fault_sets.Given as goal

abbrev pub invariant-loop-j : goal.invariant-loop-j
invariant-loop-j l = Filling l.into (length l.into) l.initial.sets l.j l.sets
