-- `planner::senders::Senders::farthest` meets its contract.
use mathlib.Core.Path.{refl}
use Rattle.planner.proofs.SenderLaws.{over_next, next_sender}
use Rattle.planner.proofs.InputLaws.{reaching_start, reaching_more, reaching_done}
use Rattle.planner.proofs.senders.Senders.farthest.Goals as goal

pub loop-x-init : goal.loop-x-init
loop-x-init c =
    let made = c.into_iter-x-iterator.ensures.into_iter_gives in
    rw made (record { net_is = refl; board_is = refl }, reaching_start _ _ _ _ c.requires _ refl)

pub loop-x-preserved : goal.loop-x-preserved
loop-x-preserved c =
    let inv = c.loop-x.invariant in
    let goes = c.in-Some.ensures.steps in
    let left = c.loop-x.x-iterator.left in
    let next = next_sender _ _ _ _ inv.0 left _ _ _ _ goes _ inv.1.walk in (
      over_next _ _ _ _ inv.0 left _ _ _ _ goes,
      rw goes.4 (reaching_more _ _ _ _ _ _ next _ inv.1 _ _ _ c.farther-half.ensures c.pick-late.ensures c.farther-reach.ensures),
    )

pub returns : goal.returns
returns c = reaching_done _ _ _ _ _ _ c.in-None.ensures.steps c.loop-x.invariant.1
