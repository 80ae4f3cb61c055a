-- What the loop of `decimal::scan::take` keeps.
use mathlib.Core.Path.{◌≡◌}
use lib.ListN.{drop}
use Rattle.decimal.specs.Numbers.{valued, behind}
use Rattle.decimal.proofs.scan.take.Given as goal

abbrev pub invariant-loop-i : goal.invariant-loop-i
invariant-loop-i l = (valued l.v (drop l.i l.text) ≡ valued 0 (drop l.at l.text)) × (behind (drop l.i l.text) ≡ behind (drop l.at l.text))
