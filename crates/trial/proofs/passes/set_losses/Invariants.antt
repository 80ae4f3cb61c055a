-- What the loop of `trial::passes::set_losses` keeps.
use Rattle.reader.specs.Entries.{tasks}
use Rattle.trial.proofs.PassLaws.{Noting}
use Rattle.trial.proofs.passes.set_losses.Given as goal

abbrev pub invariant-loop-r : goal.invariant-loop-r
invariant-loop-r l = Noting l.job.nodes l.copies.node l.copies.finish l.first (tasks l.job) l.r l.losses
