-- `judge::overlaps::pair_behind` meets its contract.
use native.Mathlib.Omega.{arith}
use Rattle.judge.proofs.SweepLaws.{behind_done, behind_stop, behind_more}
use Rattle.judge.proofs.overlaps.pair_behind.Goals as goal

pub returns-then-end-at : goal.returns-then-end-at
returns-then-end-at c =
    behind_stop _ _ _ _ _ _ c.entry_at-k.ensures _ _ c.loop-q.invariant
    (omega arith) _ c.entry_at-e.ensures (omega (arith, c.if-end-at.true))

pub loop-q-preserved : goal.loop-q-preserved
loop-q-preserved c =
    behind_more _ _ _ _ _ _ c.entry_at-k.ensures _ _ c.loop-q.invariant
    (omega arith) _ c.entry_at-e.ensures c.if-end-at.false _ c.meet-clash.ensures _ c.note_pair-noted.ensures

pub returns : goal.returns
returns c = behind_done _ _ _ _ _ _ c.entry_at-k.ensures _ _ c.loop-q.invariant (omega arith)
