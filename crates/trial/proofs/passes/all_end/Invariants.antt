-- What the loop of `trial::passes::all_end` keeps.
use Rattle.std.proofs.Common.{◌≡◌, true}
use Rattle.reader.specs.First.{every}
use Rattle.trial.specs.Passes.{ends_in}
use Rattle.trial.proofs.passes.all_end.Given as goal

abbrev pub invariant-loop-j : goal.invariant-loop-j
invariant-loop-j l = every l.j (ends_in l.outcomes.ended) ≡ true
