-- `planner::plan_job` meets its contract.
use native.Mathlib.Omega.{arith}
use Rattle.std.proofs.lemmas.Result.{err_from_is_err_and}
use Rattle.planner.proofs.WantLaws.{asked}
use Rattle.planner.proofs.TaskLaws.{bookable, plan_start, plan_more, plan_stop, plan_done}
use Rattle.planner.proofs.plan_job.Goals as goal

pub loop-j-init : goal.loop-j-init
loop-j-init c = plan_start _ _ _ c.requires c.by_receiver-links.ensures c.empty-board.ensures

pub place_task-requires : goal.place_task-requires
place_task-requires c =
    let so_far = c.loop-j.invariant in
    asked _ _ _ _ so_far.sound so_far.sent so_far.beside c.loop-j-test.true _ c.by_group-peers.ensures _ c.of-w.ensures

pub returns-in_err-pair : goal.returns-in_err-pair
returns-in_err-pair c =
    let p = err_from_is_err_and c.from_residual.result c.from_residual.ensures.1 in
    rw (p.1, p.2) (plan_stop _ _ _ _ c.loop-j.invariant c.loop-j-test.true _ c.by_group-peers.ensures _ c.of-w.ensures _
    c.place_task.ensures _ c.in_err-pair.was)

pub book-requires : goal.book-requires
book-requires c =
    bookable _ _ _ _ c.loop-j.invariant c.loop-j-test.true _ c.by_group-peers.ensures _ c.of-w.ensures _
    c.place_task.ensures _ c.in_ok-pair.was

pub loop-j-preserved : goal.loop-j-preserved
loop-j-preserved c =
    plan_more _ _ _ _ c.loop-j.invariant c.loop-j-test.true _ c.by_group-peers.ensures _ c.of-w.ensures _
    c.place_task.ensures _ c.in_ok-pair.was _ c.book.ensures.booked c.book.ensures.gone c.book.ensures.laid

pub returns : goal.returns
returns c = plan_done _ _ _ _ c.loop-j.invariant _ (omega arith) c.plan_of.ensures
