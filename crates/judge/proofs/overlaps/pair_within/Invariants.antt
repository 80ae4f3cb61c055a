-- What the loop of `judge::overlaps::pair_within` keeps.
use Rattle.copies.proofs.SpotLaws.{Swept}
use Rattle.judge.specs.Overlaps.{pair_within}
use Rattle.judge.proofs.overlaps.pair_within.Given as goal

abbrev pub invariant-loop-p : goal.invariant-loop-p
invariant-loop-p l = Swept (pair_within l.copies) l.layout.order l.from l.to l.least l.p l.noted
