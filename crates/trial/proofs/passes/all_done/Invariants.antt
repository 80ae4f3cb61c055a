-- What the loop of `trial::passes::all_done` keeps.
use Rattle.std.proofs.Common.{◌≡◌, true}
use Rattle.reader.specs.First.{every}
use Rattle.trial.specs.Passes.{done_in}
use Rattle.trial.proofs.passes.all_done.Given as goal

abbrev pub invariant-loop-j : goal.invariant-loop-j
invariant-loop-j l = every l.j (done_in l.job.tasks l.copies.finish l.outcomes.ended) ≡ true
