-- `judge::faults::common_loss` meets its contract.
use mathlib.Core.Bool.{not}
use mathlib.Core.Path.{sym, ◌∙◌, ap}
use native.Mathlib.Omega.{arith}
use Rattle.judge.specs.Faults.{loss_breach}
use Rattle.judge.proofs.ScanLaws.{clear_start, clear_done, kept, broken}
use Rattle.judge.proofs.faults.common_loss.Goals as goal

pub loop-j-init : goal.loop-j-init
loop-j-init c = clear_start _ _

pub returns-then-holds : goal.returns-then-holds
unfolding loss_breach
returns-then-holds c = broken _ _ _ _ c.loop-j.invariant (omega arith) (ap not (sym c.holds.ensures ∙ c.if-holds.true))

pub loop-j-preserved : goal.loop-j-preserved
loop-j-preserved c = kept _ _ _ _ c.loop-j.invariant (omega arith) (ap not (sym c.holds.ensures ∙ c.if-holds.false))

pub returns : goal.returns
unfolding loss_breach
returns c = clear_done _ _ _ c.loop-j.invariant (omega arith)
