-- `history::renewed::time_of` meets its contract.
use Rattle.history.proofs.TableLaws.{time_none, time_seen}
use Rattle.history.proofs.renewed.time_of.Goals as goal

pub returns-then-seen-eq0 : goal.returns-then-seen-eq0
returns-then-seen-eq0 c = time_none _ _ c.if-seen-eq0.true

pub returns-else-seen-eq0 : goal.returns-else-seen-eq0
returns-else-seen-eq0 c = time_seen _ _ c.if-seen-eq0.false
