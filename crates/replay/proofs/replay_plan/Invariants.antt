-- What the loops of `replay::replay_plan` keep, and what falls.
use Prim.Native.Nat.{◌-◌}
use Rattle.std.specs.Prelude.{option_copied}
use Rattle.reader.specs.Entries.{links}
use Rattle.replay.specs.TimesFile.{chosen}
use Rattle.replay.proofs.RunLaws.{Upto}
use Rattle.replay.proofs.replay_plan.Given as goal

abbrev pub invariant-loop-j : goal.invariant-loop-j
invariant-loop-j l = Upto l.job l.plan (chosen (option_copied l.times) l.job l.plan) l.loss l.j l.k l.r

abbrev pub invariant-loop-k : goal.invariant-loop-k
invariant-loop-k l = Upto l.job l.plan (chosen (option_copied l.times) l.job l.plan) l.loss l.j l.k l.r

abbrev pub decreases-loop-k : goal.decreases-loop-k
decreases-loop-k l = links l.job - l.k
