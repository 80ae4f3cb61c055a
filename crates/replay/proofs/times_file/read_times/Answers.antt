-- `replay::times_file::read_times` meets its contract.
use mathlib.Core.Path.{refl}
use native.Mathlib.Omega.{arith}
use Rattle.reader.proofs.NumberLaws.{is_none, is_value, is_fault}
use Rattle.reader.proofs.Chain.{handed, refused, given}
use Rattle.reader.proofs.ReadLoop.{read_start, read_more}
use Rattle.replay.proofs.PairLaws.{on_nodes}
use Rattle.replay.proofs.TimesFileLaws.{times_stop, times_tail, times_whole, times_are}
use Rattle.replay.proofs.times_file.read_times.Goals as goal

pub loop-j-init : goal.loop-j-init
loop-j-init c = read_start _ _ _ _ _ _ refl refl

pub listed-requires : goal.listed-requires
listed-requires c = on_nodes _ _ c.requires _ c.loop-j-test.true

pub returns-in_err-of : goal.returns-in_err-of
returns-in_err-of c =
    let read = rw c.listed.ensures at c.read_took.ensures in
    handed _ _ c.from_residual.ensures.1 (times_stop _ _ _ _ _ c.loop-j.invariant c.loop-j-test.true (is_fault _ _ _ read c.in_err-of.was))

pub loop-j-preserved : goal.loop-j-preserved
loop-j-preserved c =
    let read = rw c.listed.ensures at c.read_took.ensures in
    let done = c.in_ok-of.was in
    read_more _ _ _ _ _ _ _ _ c.loop-j.invariant _ c.loop-j-test.true (is_none _ _ _ read done) (is_value _ _ _ read done)

pub returns-then-end-file : goal.returns-then-end-file
returns-then-end-file c = refused _ (times_tail _ _ _ _ _ c.loop-j.invariant (omega arith) c.if-end-file.true)

pub returns : goal.returns
returns c =
    let all = c.loop-j.invariant in
    given _ (times_whole _ _ _ _ _ all (omega arith) c.if-end-file.false) (times_are _ c.args.job.now c.args.plan.now _ _ all (omega arith))
