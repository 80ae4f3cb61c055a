-- What the loop of `history::times::RunTimes::of` keeps.
use Rattle.history.proofs.TableLaws.{RunsTo}
use Rattle.history.proofs.times.RunTimes.of.Given as goal

abbrev pub invariant-loop-j : goal.invariant-loop-j
invariant-loop-j l = RunsTo l.job l.j l.runs
