-- `judge::overlaps::note_pair` meets its contract.
use Rattle.judge.proofs.SweepLaws.{note_new, note_old}
use Rattle.judge.proofs.overlaps.note_pair.Goals as goal

pub returns-then-clash-a : goal.returns-then-clash-a
returns-then-clash-a c = note_new _ _ _ _ _ _ c.if-clash-a.true c.min.ensures c.pair_of-pair.ensures

pub returns-else-clash-a : goal.returns-else-clash-a
returns-else-clash-a c = note_old _ _ _ _ c.if-clash-a.false
