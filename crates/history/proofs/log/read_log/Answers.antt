-- `history::log::read_log` meets its contract.
use native.Mathlib.Omega.{arith}
use Rattle.history.proofs.LogLaws.{log_first, stops, goes_on, cut_stops, cut_never, ends}
use Rattle.history.proofs.log.read_log.Goals as goal

pub loop-at-init : goal.loop-at-init
loop-at-init c = rw c.empty-window.ensures (log_first _ _)

pub overflow_add-at : goal.overflow_add-at
overflow_add-at c = omega (arith, c.loop-at.invariant.within)

pub returns-in_err-read_timing : goal.returns-in_err-read_timing
returns-in_err-read_timing c =
    stops _ _ _ _ c.loop-at.invariant _ c.read_timing.ensures.one_read c.loop-at-test.true _ c.in_err-read_timing.was c.from_residual.ensures.1

pub loop-at-smaller : goal.loop-at-smaller
loop-at-smaller c = omega arith

pub loop-at-preserved : goal.loop-at-preserved
loop-at-preserved c =
    goes_on _ _ _ _ c.loop-at.invariant _ c.read_timing.ensures.one_read c.loop-at-test.true _ c.in_ok-read_timing.was c.take.ensures

pub returns-in_err-read_timing-2 : goal.returns-in_err-read_timing-2
returns-in_err-read_timing-2 c =
    cut_stops _ _ _ _ c.loop-at.invariant _ c.read_timing-then-at-log.ensures.one_read c.if-at-log.true (omega arith) _ c.in_err-read_timing-2.was
    c.from_residual-in_err-read_timing-2.ensures.1

pub returns-in_ok-read_timing-2 : goal.returns-in_ok-read_timing-2
returns-in_ok-read_timing-2 c =
    cut_never _ _ _ _ c.loop-at.invariant _ c.read_timing-then-at-log.ensures.one_read c.if-at-log.true (omega arith) _ c.in_ok-read_timing-2.was

pub returns-else-at-log : goal.returns-else-at-log
returns-else-at-log c = ends _ _ _ _ c.loop-at.invariant c.if-at-log.false
