-- What the loop of `trial::runs::run_all` keeps.
use Rattle.trial.specs.Runs.{Placed, Upto}
use Rattle.trial.proofs.runs.run_all.Given as goal

abbrev pub invariant-loop-j : goal.invariant-loop-j
invariant-loop-j l =
    (w : Placed l.job l.copies l.leave) → Upto l.job w.plan l.losses l.j l.k l.fed l.outcomes
