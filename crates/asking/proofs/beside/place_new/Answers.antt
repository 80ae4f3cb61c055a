-- `asking::beside::place_new` meets its contract.
use native.Mathlib.Omega.{arith}
use Rattle.asking.proofs.BesideLaws.{merged_sendable, beside_none, old_takeable, old_more}
use Rattle.asking.proofs.BesideLaws.{new_wanted, new_told}
use Rattle.asking.proofs.beside.place_new.Goals as goal

pub by_receiver-links-requires : goal.by_receiver-links-requires
by_receiver-links-requires c = merged_sendable _ _ _ c.requires _ c.merged_links-merged.ensures

pub loop-j-init : goal.loop-j-init
loop-j-init c =
    beside_none _ _ _ c.requires _ c.merged_links-merged.ensures _ c.by_receiver-links.ensures _
    c.empty-board.ensures

pub pair_at-pair-requires : goal.pair_at-pair-requires
pair_at-pair-requires c = (omega (arith, c.requires.sound.tasks_most), old_takeable _ _ _ _ _ _ c.loop-j.invariant c.loop-j-test.true)

pub loop-j-preserved : goal.loop-j-preserved
loop-j-preserved c =
    old_more _ _ _ _ _ _ c.loop-j.invariant c.loop-j-test.true _ c.pair_at-pair.ensures _
    c.book.ensures.booked c.book.ensures.gone c.book.ensures.laid

pub place_task-requires : goal.place_task-requires
place_task-requires c = new_wanted _ _ _ _ _ _ c.loop-j.invariant (omega arith) _ c.by_group-peers.ensures _ c.of-w.ensures

pub returns : goal.returns
returns c =
    new_told _ _ _ _ _ _ c.loop-j.invariant (omega arith) _ c.by_group-peers.ensures _
    c.of-w.ensures _ c.place_task.ensures
