-- `history::renewed::put_table` meets its contract.
use Prim.Native.Nat.{◌<◌}
use lib.Seq.{length-take-le}
use native.Mathlib.Omega.{arith}
use Rattle.history.proofs.TableLaws.{table_start, table_more, table_done}
use Rattle.history.proofs.renewed.put_table.Goals as goal

pub loop-task-init : goal.loop-task-init
loop-task-init c = table_start _ _

pub loop-task-preserved : goal.loop-task-preserved
loop-task-preserved c =
    let n : c.loop-task.task-index < c.args.job.now.task_count = omega (arith, length-take-le c.args.job.now.task_count c.args.job.now.tasks (omega arith)) in
    table_more _ _ _ _ _ c.loop-task.invariant _ _ n c.put_run-at.ensures

pub returns : goal.returns
returns c = table_done _ _ _ _ _ c.loop-task.invariant (omega (arith, length-take-le c.args.job.now.task_count c.args.job.now.tasks (omega arith)))
