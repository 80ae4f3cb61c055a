-- `replay::replay_plan` meets its contract.
use native.Mathlib.Omega.{arith}
use Rattle.replay.proofs.RunLaws.{upto_start, upto_sent, upto_settled, upto_done, task_fits, to_fits, node_below, sent_fits}
use Rattle.replay.proofs.PairLaws.{pair_groups, ticks_fit, ticks_pair}
use Rattle.replay.proofs.replay_plan.Goals as goal
use Rattle.replay.proofs.replay_plan.Goals.{then-loop-k-test+else-job-k, else-loop-k-test}

pub loop-j-init : goal.loop-j-init
loop-j-init c = upto_start _ _ _ _ c.requires _ c.start-r.ensures

pub bounds-job-node : goal.bounds-job-node
bounds-job-node c =
    let p = node_below _ _ _ _ c.requires _ _ _ c.loop-k.invariant c.loop-k-test.true c.if-job-k.true in
    omega (arith, c.requires.0.nodes_most)

pub send-requires : goal.send-requires
send-requires c =
    let k = c.loop-k.invariant in (
      task_fits _ c.requires.0 _ (omega (arith, k.within)),
      to_fits _ c.requires.0 _ c.loop-k-test.true,
      sent_fits _ _ _ _ c.requires _ _ _ k c.loop-k-test.true c.if-job-k.true,
    )

pub loop-k-preserved : goal.loop-k-preserved
loop-k-preserved c = rw c.send.ensures (upto_sent _ _ _ _ c.requires _ _ _ c.loop-k.invariant c.loop-k-test.true c.if-job-k.true)

pub pair_of-y-requires : goal.pair_of-y-requires
pair_of-y-requires c = rw c.took_by.ensures (ticks_fit _ _ _ c.requires _ c.loop-j-test.true)

pub loop-j-preserved : goal.loop-j-preserved
loop-j-preserved c =
    let pre = c.requires in
    let below = c.loop-j-test.true in
    let pair = ticks_pair _ _ _ pre _ below _ (rw c.took_by.ensures at c.pair_of-y.ensures) in
    rw c.store.ensures
    (upto_settled _ _ _ _ pre _ _ _ c.loop-k.invariant below
    (elim c.loop-k-test.branch [ then-loop-k-test+else-job-k w ↦ λ k. omega arith | else-loop-k-test w ↦ λ k. omega arith ])
    _ _ _ pair c.max.ensures (c.settle-o.ensures _ (pair_groups _ _ _ pre _ _ pair)))

pub returns : goal.returns
returns c = upto_done _ _ _ _ c.requires _ _ _ c.loop-j.invariant (omega (arith, c.loop-j.invariant.within))
