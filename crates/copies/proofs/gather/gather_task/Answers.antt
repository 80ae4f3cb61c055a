-- `copies::gather::gather_task` meets its contract.
use native.Mathlib.Omega.{arith}
use Rattle.copies.proofs.SetLaws.{shifted}
use Rattle.copies.proofs.GatherLaws.{gather_start, gather_more, gather_done, gathers, sender_low, sender_part}
use Rattle.copies.proofs.gather.gather_task.Goals as goal

pub loop-left-init : goal.loop-left-init
loop-left-init c = gather_start _ _ _

pub overflow_sub-left : goal.overflow_sub-left
overflow_sub-left c =
    let low = sender_low c.loop-left.left (omega arith) (omega arith) in
    (sender_part c.loop-left.left (omega arith) (omega arith) _ (shifted 64 _ low)).0

pub loop-left-smaller : goal.loop-left-smaller
loop-left-smaller c =
    let low = sender_low c.loop-left.left (omega arith) (omega arith) in
    omega (arith, sender_part c.loop-left.left (omega arith) (omega arith) _ (shifted 64 _ low))

pub loop-left-preserved : goal.loop-left-preserved
loop-left-preserved c =
    let low = sender_low c.loop-left.left (omega arith) (omega arith) in
    gather_more _ _ _ _ c.loop-left.left _ c.loop-left.invariant (omega arith) (omega arith) (shifted 64 _ low)

pub returns : goal.returns
returns c =
    let all = gather_done _ _ _ _ _ c.loop-left.invariant c.loop-left-test.false in
    record {
      by_index = all;
      gathers = gathers _ _ _ _ all;
    }
