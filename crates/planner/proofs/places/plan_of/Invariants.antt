-- What the loop of `planner::places::plan_of` keeps.
use mathlib.Core.Path.{◌≡◌}
use Rattle.planner.specs.Tasks.{listed, places_to}
use Rattle.planner.proofs.places.plan_of.Given as goal

abbrev pub invariant-loop-j : goal.invariant-loop-j
invariant-loop-j l = l.plan ≡ listed 0 (places_to l.copies.node l.copies.start l.j)
