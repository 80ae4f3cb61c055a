-- `history::log::read_timing` meets its contract.
use mathlib.Core.Path.{refl}
use native.Mathlib.Omega.{arith}
use Rattle.reader.proofs.NumberLaws.{is_good}
use Rattle.history.proofs.LogLaws.{timing_task, timing_node, timing_ticks, timing_done}
use Rattle.history.proofs.log.read_timing.Goals as goal

pub returns-in_err-task-clause-one_read : goal.returns-in_err-task-clause-one_read
returns-in_err-task-clause-one_read c =
    λ job h. timing_task _ _ _ job h _ _ c.field.ensures c.in_err-task.was c.from_residual.ensures.1

pub read_node-requires : goal.read_node-requires
read_node-requires c = (omega arith, omega (arith, is_good _ _ _ _ _ _ c.field.ensures c.in_ok-task.was, c.args.times.now.tasks_most))

pub returns-in_err-node-clause-one_read : goal.returns-in_err-node-clause-one_read
returns-in_err-node-clause-one_read c =
    λ job h. timing_node _ _ _ job h _ _ c.field.ensures _ c.in_ok-task.was _ (c.read_node.ensures.value job h)
    c.in_err-node.was c.from_residual-in_err-node.ensures.1

pub returns-in_err-ticks-clause-one_read : goal.returns-in_err-ticks-clause-one_read
returns-in_err-ticks-clause-one_read c =
    λ job h. timing_ticks _ _ _ job h _ _ c.field.ensures _ c.in_ok-task.was _ (c.read_node.ensures.value job h)
    _ c.in_ok-node.was _ c.field-2.ensures c.in_err-ticks.was c.from_residual-in_err-ticks.ensures.1

pub returns-clause-within : goal.returns-clause-within
returns-clause-within c = (omega (arith, is_good _ _ _ _ _ _ c.field.ensures c.in_ok-task.was), c.in_ok-node.ensures.by_index)

pub returns-clause-one_read : goal.returns-clause-one_read
returns-clause-one_read c =
    λ job h. timing_done _ _ _ job h _ _ c.field.ensures _ c.in_ok-task.was _ (c.read_node.ensures.value job h)
    _ c.in_ok-node.was _ c.field-2.ensures _ c.in_ok-ticks.was refl
