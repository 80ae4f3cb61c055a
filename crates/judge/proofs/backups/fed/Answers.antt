-- `judge::backups::fed` meets its contract.
use mathlib.Core.Path.{sym, ◌∙◌}
use Rattle.judge.proofs.BackupLaws.{fed_late, fed_apart, fed_both}
use Rattle.judge.proofs.backups.fed.Goals as goal

pub returns-then-s-t-eq0 : goal.returns-then-s-t-eq0
returns-then-s-t-eq0 c = fed_apart _ _ _ _ (sym c.in_time.ensures ∙ c.if-in_time.true) c.if-s-t-eq0.true

pub returns-else-s-t-eq0 : goal.returns-else-s-t-eq0
returns-else-s-t-eq0 c =
    fed_both _ _ _ _ (sym c.in_time.ensures ∙ c.if-in_time.true) c.if-s-t-eq0.false _ c.in_time-else-s-t-eq0.ensures

pub returns-else-in_time : goal.returns-else-in_time
returns-else-in_time c = c.in_time.ensures ∙ fed_late _ _ _ _ (sym c.in_time.ensures ∙ c.if-in_time.false)
