-- `planner::board::Board::place_task` meets its contract.
use native.Mathlib.Omega.{arith}
use Rattle.planner.proofs.KeepsLaws.{want_sending, primary_ready, no_primary, primary_node, least_fits, group_fits, backup_ready, no_backup}
use Rattle.planner.proofs.KeepsLaws.{both}
use Rattle.planner.proofs.board.Board.place_task.Goals as goal

pub gather-fed-requires : goal.gather-fed-requires
gather-fed-requires c = want_sending _ _ _ _ c.requires

pub best_slot-a-requires : goal.best_slot-a-requires
best_slot-a-requires c = primary_ready _ _ _ _ c.requires _ c.gather-fed.ensures _ c.primary_search-first.ensures

pub returns-in_default : goal.returns-in_default
returns-in_default c =
    λ w. no_primary _ _ _ _ w _ c.gather-fed.ensures _ c.primary_search-first.ensures
    c.best_slot-a.result c.best_slot-a.ensures c.in_default.is

pub bounds-want-p : goal.bounds-want-p
bounds-want-p c =
    primary_node _ _ _ _ c.requires _ c.gather-fed.ensures _ c.primary_search-first.ensures
    c.best_slot-a.result c.best_slot-a.ensures _ c.in-Some.is

pub fault_set-set-requires : goal.fault_set-set-requires
fault_set-set-requires c = (
  want_sending _ _ _ _ c.requires,
  group_fits _ _ _ _ c.requires _ c.gather-fed.ensures _ c.primary_search-first.ensures
      c.best_slot-a.result c.best_slot-a.ensures _ c.in-Some.is,
)

pub gather-late-requires : goal.gather-late-requires
gather-late-requires c = want_sending _ _ _ _ c.requires

pub overflow_add-least : goal.overflow_add-least
overflow_add-least c =
    omega (
      arith,
      least_fits _ _ _ _ c.requires _ c.gather-fed.ensures _ c.primary_search-first.ensures
          c.best_slot-a.result c.best_slot-a.ensures _ c.in-Some.is,
    )

pub best_slot-b-requires : goal.best_slot-b-requires
best_slot-b-requires c =
    backup_ready _ _ _ _ c.requires _ c.gather-fed.ensures _ c.primary_search-first.ensures
    c.best_slot-a.result c.best_slot-a.ensures _ c.in-Some.is _
    c.fault_set-set.ensures _ c.gather-late.ensures _ c.gather_task-barred.ensures.by_index _
    c.backup_search-second.ensures

pub returns-in_default-b : goal.returns-in_default-b
returns-in_default-b c =
    λ w. no_backup _ _ _ _ w _ c.gather-fed.ensures _ c.primary_search-first.ensures
    c.best_slot-a.result c.best_slot-a.ensures _ c.in-Some.is _
    c.fault_set-set.ensures _ c.gather-late.ensures _
    c.gather_task-barred.ensures.by_index _ c.backup_search-second.ensures
    c.best_slot-b.result c.best_slot-b.ensures c.in_default-b.is

pub returns : goal.returns
returns c =
    λ w. both _ _ _ _ w _ c.gather-fed.ensures _ c.primary_search-first.ensures
    c.best_slot-a.result c.best_slot-a.ensures _ c.in-Some.is _
    c.fault_set-set.ensures _ c.gather-late.ensures _
    c.gather_task-barred.ensures.by_index _ c.backup_search-second.ensures
    c.best_slot-b.result c.best_slot-b.ensures _ c.in-Some-b.is
