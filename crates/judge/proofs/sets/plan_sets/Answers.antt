-- `judge::sets::plan_sets` meets its contract.
use Rattle.judge.proofs.PlanLaws.{filled}
use Rattle.judge.proofs.NumberLaws.{fault_number_lem}
use Rattle.judge.proofs.sets.plan_sets.Goals as goal

pub returns : goal.returns
returns c =
    let sets = filled _ _ c.requires.0 c.requires.1 _ _ _ c.place_copies.ensures _ _ c.walk_links.ensures _ c.fault_sets.ensures in
    λ j p. fault_number_lem _ _ c.requires.0 c.requires.1 j p _ sets
