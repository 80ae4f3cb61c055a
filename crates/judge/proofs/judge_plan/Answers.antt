-- `judge::judge_plan` meets its contract.
use mathlib.Core.Logic.{inl, inr}
use Rattle.judge.proofs.PlanLaws.{low, grouped, pass_ready, tasks_refused, links_refused, backups_refused, faults_answered}
use Rattle.judge.proofs.judge_plan.Goals as goal
use Rattle.judge.proofs.judge_plan.Goals.{then-unsure-ne0+in_ok-backups_fed, else-unsure-ne0}

pub returns-in_err-place_copies : goal.returns-in_err-place_copies
returns-in_err-place_copies c =
    tasks_refused _ _ c.requires.0 c.requires.1 _ _ _ c.place_copies.ensures c.in_err-place_copies.was _ c.from_residual.ensures.1

pub returns-in_err-by_links : goal.returns-in_err-by_links
returns-in_err-by_links c =
    links_refused _ _ c.requires.0 c.requires.1 _ _ _ c.place_copies.ensures _ _ c.walk_links-unsure.ensures
    c.in_ok-place_copies.was c.in_err-by_links.was _ c.from_residual-in_err-by_links.ensures.1

pub backups_fed-requires : goal.backups_fed-requires
backups_fed-requires c =
    pass_ready _ _ c.requires.0 c.requires.1 _ _ _ c.place_copies.ensures _ _ c.walk_links-unsure.ensures _ c.fault_sets.ensures

pub returns-in_err-backups_fed : goal.returns-in_err-backups_fed
returns-in_err-backups_fed c =
    backups_refused _ _ c.requires.0 c.requires.1 _ _ _ c.place_copies.ensures _ _ c.walk_links-unsure.ensures _ c.fault_sets.ensures
    c.in_ok-place_copies.was c.in_ok-by_links.was _ c.backups_fed.ensures c.in_err-backups_fed.was _ c.from_residual-in_err-backups_fed.ensures.1

pub judge_faults-requires : goal.judge_faults-requires
judge_faults-requires c =
    let placed = c.place_copies.ensures in
    (low _ _ c.requires.0 c.requires.1 _ _ _ placed, grouped _ _ c.requires.0 c.requires.1 _ _ _ placed)

pub returns : goal.returns
returns c =
    faults_answered _ _ c.requires.0 c.requires.1 _ _ _ c.place_copies.ensures _ _ c.walk_links-unsure.ensures _ c.fault_sets.ensures
    c.in_ok-place_copies.was c.in_ok-by_links.was
    (elim c.if-unsure-ne0.branch [
      | then-unsure-ne0+in_ok-backups_fed w ↦ inr (_, w.backups_fed.ensures, w.in_ok-backups_fed.was)
      | else-unsure-ne0 w ↦ inl w.if-unsure-ne0.false
    ])
    _ c.judge_faults.ensures
