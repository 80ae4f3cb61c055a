-- `reader::job_file::width_if` meets its contract.
use native.Mathlib.Omega.{arith}
use Rattle.reader.specs.Fields.{width_if}
use Rattle.reader.proofs.job_file.width_if.Goals as goal

pub returns-then-has : goal.returns-then-has
unfolding width_if
returns-then-has c = (rw c.if-has.true, omega arith)

pub returns-else-has : goal.returns-else-has
unfolding width_if
returns-else-has c = (rw c.if-has.false, omega arith)
