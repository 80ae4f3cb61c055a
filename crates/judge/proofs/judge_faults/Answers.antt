-- `judge::judge_faults` meets its contract.
use mathlib.Core.Path.{sym, ◌∙◌, ap}
use Rattle.reader.specs.Refusals.{answered}
use Rattle.reader.proofs.RefusalLaws.{answered_done, answered_refused}
use Rattle.reader.proofs.Chain.{pass, stop, handed}
use Rattle.judge.specs.Overlaps.{fault_breach}
use Rattle.judge.proofs.judge_faults.Goals as goal

pub returns-in_err-common_loss : goal.returns-in_err-common_loss
unfolding fault_breach
returns-in_err-common_loss c =
    handed _ _ c.from_residual.ensures.1 (stop _ ((answered_refused _ _).0 (sym c.common_loss.ensures ∙ c.in_err-common_loss.was)))

pub returns : goal.returns
unfolding fault_breach
returns c =
    c.overlapping.ensures ∙ ap answered (sym (pass _ ((answered_done _).0 (sym c.common_loss.ensures ∙ c.in_ok-common_loss.was))))
