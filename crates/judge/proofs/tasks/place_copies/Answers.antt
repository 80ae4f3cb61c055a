-- `judge::tasks::place_copies` meets its contract.
use native.Mathlib.Omega.{arith}
use Rattle.judge.proofs.TaskLaws.{placing_start, placing_more, placing_done, group_fits}
use Rattle.judge.proofs.tasks.place_copies.Goals as goal

pub loop-j-init : goal.loop-j-init
loop-j-init c = placing_start _ _ _ _ c.requires.1 c.requires.2

pub bit_of-requires : goal.bit_of-requires
bit_of-requires c = omega (arith, group_fits _ _ c.requires.0 _ (omega arith) _ c.copy_of-p.ensures)

pub loop-j-preserved : goal.loop-j-preserved
loop-j-preserved c =
    placing_more _ _ c.requires.0 _ _ _ _ _ _ _ c.loop-j.invariant (omega arith)
    _ _ c.copy_of-p.ensures c.copy_of-b.ensures _ _ _ _ c.noted-same.ensures
    c.noted-soon.ensures c.noted-early.ensures c.noted-late.ensures _ c.bit_of.ensures _ _
    c.put.ensures.1 c.put-in-loop-j.ensures.1 c.put-in-loop-j.ensures.0

pub returns : goal.returns
returns c = placing_done _ _ _ _ _ _ _ _ _ c.loop-j.invariant (omega arith) _ c.task_answer.ensures
