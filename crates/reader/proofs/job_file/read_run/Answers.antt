-- `reader::job_file::read_run` meets its contract.
use mathlib.Core.Path.{refl}
use native.Mathlib.Omega.{arith}
use Rattle.reader.specs.First.{◌or_else◌}
use Rattle.reader.specs.JobFile.{run_fault, run_at}
use Rattle.reader.proofs.NumberLaws.{is_none, is_value, is_fault}
use Rattle.reader.proofs.Chain.{stopped, finished}
use Rattle.reader.proofs.ReadLoop.{read_start, read_more, read_stop, read_fine, read_end}
use Rattle.reader.proofs.job_file.read_run.Goals as goal

pub loop-i-init : goal.loop-i-init
loop-i-init c = λ file part. read_start _ _ _ _ _ _ refl refl

pub returns-in_err-times : goal.returns-in_err-times
unfolding run_fault ◌or_else◌
returns-in_err-times c =
    λ file part.
    stopped _ c.from_residual.ensures.1
    (read_stop _ _ _ _ _ _ _ _ (c.loop-i.invariant file part) c.loop-i-test.true
    (is_fault _ _ _ (c.field_of_part.ensures file part) c.in_err-times.was))

pub loop-i-preserved : goal.loop-i-preserved
loop-i-preserved c =
    λ file part.
    let e = c.field_of_part.ensures file part in
    let q = c.in_ok-times.was in
    read_more _ _ _ _ _ _ _ _ (c.loop-i.invariant file part) _ c.loop-i-test.true (is_none _ _ _ e q) (is_value _ _ _ e q)

pub returns : goal.returns
unfolding run_fault run_at ◌or_else◌
returns c =
    λ file part.
    let l = c.loop-i.invariant file part in
    finished (read_fine _ _ _ _ _ _ _ _ l (omega arith)) (read_end _ _ _ _ _ _ _ _ l (omega arith)).1
