-- `planner::senders::Senders::fault_set` meets its contract.
use mathlib.Core.Path.{refl}
use Rattle.planner.proofs.SenderLaws.{over_next, next_sender}
use Rattle.planner.proofs.FaultLaws.{faulting_start, faulting_more, faulting_done}
use Rattle.planner.proofs.senders.Senders.fault_set.Goals as goal

pub loop-x-init : goal.loop-x-init
loop-x-init c =
    let made = c.into_iter-x-iterator.ensures.into_iter_gives in
    rw made (record { net_is = refl; board_is = refl }, faulting_start _ _ _ _ c.requires.0)

pub loop-x-preserved : goal.loop-x-preserved
loop-x-preserved c =
    let inv = c.loop-x.invariant in
    let goes = c.in-Some.ensures.steps in
    let left = c.loop-x.x-iterator.left in
    let next = next_sender _ _ _ _ inv.0 left _ _ _ _ goes _ inv.1.walk in (
      over_next _ _ _ _ inv.0 left _ _ _ _ goes,
      rw goes.4 (faulting_more _ _ _ _ _ _ _ _ inv.1 _ next c.in_time.ensures c.late_bit-weak.ensures),
    )

pub returns : goal.returns
returns c = faulting_done _ _ _ _ _ _ c.in-None.ensures.steps c.loop-x.invariant.1 _ _ _ c.bit_of.ensures c.gather_task.ensures.by_index
