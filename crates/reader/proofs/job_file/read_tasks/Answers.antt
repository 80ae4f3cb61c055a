-- `reader::job_file::read_tasks` meets its contract.
use mathlib.Core.List.{List}
use mathlib.Core.Path.{◌≡◌}
use lib.ListN.{drop}
use Prim.Native.Nat.{ℕ}
use native.Mathlib.Omega.{arith}
use Rattle.reader.specs.JobFile.{tasks_fault, tasks_at}
use Rattle.reader.proofs.NumberLaws.{is_none, is_value, is_fault, is_good, some_file}
use Rattle.reader.proofs.Chain.{stop, stopped, finished, reads_none, reads_some, reads_value}
use Rattle.reader.proofs.ReadLoop.{rows_begin, rows_more, rows_stop, rows_fine, rows_end}
use Rattle.reader.proofs.job_file.read_tasks.Goals as goal

pub returns-in_err-count-clause-by_index : goal.returns-in_err-count-clause-by_index
unfolding tasks_fault
returns-in_err-count-clause-by_index c =
    λ file part.
    stopped _ c.from_residual.ensures.1 (stop _ (is_fault _ _ _ (c.field_of_part.ensures file part) c.in_err-count.was))

pub loop-i-init : goal.loop-i-init
loop-i-init c =
    let e = c.field_of_part.ensures in
    let q = c.in_ok-count.was in
    let args = c.args in (
      (is_good _ _ _ _ _ _ (e _ (some_file args.base args.part.now)) q).1,
      omega arith,
      omega arith,
      λ file part. rows_begin _ _ _ _ _ _ _ _ _ (is_none _ _ _ (e file part) q) (is_value _ _ _ (e file part) q) c.requires.2,
    )

pub read_task-requires : goal.read_task-requires
read_task-requires c = omega (arith, c.loop-i.invariant, c.requires)

pub returns-in_err-task-clause-by_index : goal.returns-in_err-task-clause-by_index
unfolding tasks_fault
returns-in_err-task-clause-by_index c =
    λ file part.
    stopped _ c.from_residual-in_err-task.ensures.1
    (rows_stop _ _ _ _ _ _ _ _ _ _ _ (c.loop-i.invariant.3 file part) (reads_some (c.read_task.ensures.by_index file part) c.in_err-task.was)
    c.loop-i-test.true)

pub bounds-list-i : goal.bounds-list-i
bounds-list-i c = omega (arith, c.loop-i.invariant.0)

pub loop-i-preserved : goal.loop-i-preserved
loop-i-preserved c =
    let l = c.loop-i.invariant in
    let task = c.read_task.ensures in
    let below = c.loop-i-test.true in
    let args = c.args in
    let some = some_file args.base args.part.now in
    let rows = λ (file : List ℕ) (part : drop args.base file ≡ args.part.now).
    let read = task.by_index file part in
    let value = reads_value read c.in_ok-task.was in
    rows_more _ _ _ _ _ _ _ _ _ _ _ (l.3 file part) (reads_none read c.in_ok-task.was) value.0 value.1 below in
    (l.0, omega (arith, (rows _ some).here), omega (arith, l.2, c.in_ok-task.ensures.end_bound), rows)

pub returns-clause-count_le_max_tasks : goal.returns-clause-count_le_max_tasks
returns-clause-count_le_max_tasks c = omega (arith, c.loop-i.invariant.0, c.loop-i.invariant.2)

pub returns-clause-by_index : goal.returns-clause-by_index
unfolding tasks_fault tasks_at
returns-clause-by_index c =
    λ file part.
    let l = c.loop-i.invariant.3 file part in
    finished (rows_fine _ _ _ _ _ _ _ _ _ _ _ l (omega arith)) (rows_end _ _ _ _ _ _ _ _ _ _ _ l (omega arith))
