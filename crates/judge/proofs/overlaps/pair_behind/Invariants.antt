-- What the loop of `judge::overlaps::pair_behind` keeps.
use Prim.Native.Nat.{◌+◌}
use Rattle.copies.proofs.SpotLaws.{Swept}
use Rattle.judge.specs.Overlaps.{pair_behind}
use Rattle.judge.proofs.overlaps.pair_behind.Given as goal

abbrev pub invariant-loop-q : goal.invariant-loop-q
invariant-loop-q l = Swept (pair_behind l.copies l.k) l.layout.order (l.p + 1) l.to l.least l.q l.noted
