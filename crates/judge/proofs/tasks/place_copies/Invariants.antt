-- What the loop of `judge::tasks::place_copies` keeps.
use Rattle.judge.proofs.TaskLaws.{Placing}
use Rattle.judge.proofs.tasks.place_copies.Given as goal

abbrev pub invariant-loop-j : goal.invariant-loop-j
invariant-loop-j l = Placing l.job l.plan l.j l.copies l.leave l.same l.soon l.early l.late
