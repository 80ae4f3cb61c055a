-- What the loop of `judge::links::walk_links` keeps.
use Rattle.judge.proofs.LinkLaws.{Walking}
use Rattle.judge.proofs.links.walk_links.Given as goal

abbrev pub invariant-loop-k : goal.invariant-loop-k
invariant-loop-k l = Walking l.job l.copies l.k l.into l.primary l.unsure
