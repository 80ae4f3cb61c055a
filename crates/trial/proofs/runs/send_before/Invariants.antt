-- What the loop of `trial::runs::send_before` keeps.
use Rattle.trial.specs.declared.words.Losses.{Losses}
use Rattle.trial.specs.Runs.{Placed, Upto}
use Rattle.trial.proofs.runs.send_before.Given as goal

abbrev pub invariant-loop-i : goal.invariant-loop-i
invariant-loop-i l =
    (w : Placed l.job l.copies l.leave) (losses : Losses)
    → Upto l.job w.plan losses l.j l.k l.initial.fed l.outcomes → Upto l.job w.plan losses l.j l.i l.fed l.outcomes
