-- `judge::overlaps::overlapping` meets its contract.
use Rattle.judge.proofs.PairLaws.{all_layable, all_filled, tells_none, tells_first}
use Rattle.judge.proofs.overlaps.overlapping.Goals as goal

pub lay_all-requires : goal.lay_all-requires
lay_all-requires c = all_layable _ _ _ c.requires _ _ (c.empty-layout.ensures _ _)

pub least_pair-pair-requires : goal.least_pair-pair-requires
least_pair-pair-requires c = all_filled _ _ _ c.requires _ _ c.lay_all.ensures

pub returns-then-pair-eq-NO_PAIR : goal.returns-then-pair-eq-NO_PAIR
returns-then-pair-eq-NO_PAIR c = tells_none _ _ _ _ c.requires c.lay_all.ensures _ c.least_pair-pair.ensures c.if-pair-eq-NO_PAIR.true

pub returns : goal.returns
returns c = tells_first _ _ _ _ c.requires c.lay_all.ensures _ c.least_pair-pair.ensures c.if-pair-eq-NO_PAIR.false
