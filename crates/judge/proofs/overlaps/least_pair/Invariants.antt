-- What the loop of `judge::overlaps::least_pair` keeps.
use mathlib.Core.Path.{◌≡◌}
use Rattle.judge.specs.Overlaps.{pair_on}
use Rattle.judge.proofs.overlaps.least_pair.Given as goal

abbrev pub invariant-loop-m : goal.invariant-loop-m
invariant-loop-m l = l.noted ≡ pair_on l.copies l.layout.order l.layout.count l.m
