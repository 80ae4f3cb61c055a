-- What the loop of `trial::words::Losses::spared` keeps.
use Rattle.std.proofs.Common.{◌≡◌}
use Rattle.trial.specs.Words.{spared_in}
use Rattle.trial.proofs.words.Losses.spared.Given as goal

abbrev pub invariant-loop-r : goal.invariant-loop-r
invariant-loop-r l = l.runs ≡ spared_in l.self l.group l.by l.r
