-- What the loop of `judge::faults::common_loss` keeps.
use Rattle.reader.specs.declared.refusal.Refusal.TheVariants.{CommonLoss}
use Rattle.reader.specs.First.{unless}
use Rattle.reader.specs.Entries.{tasks}
use Rattle.judge.specs.Faults.{outside}
use Rattle.judge.proofs.ScanLaws.{Clear}
use Rattle.judge.proofs.faults.common_loss.Given as goal

abbrev pub invariant-loop-j : goal.invariant-loop-j
invariant-loop-j l = Clear (tasks l.job) (λ j. unless (outside l.job.nodes l.copies.node l.copies.set j) (CommonLoss j)) l.j
