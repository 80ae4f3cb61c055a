-- `reader::refusal::Told::packed` meets its contract.
use native.Mathlib.Omega.{arith}
use Rattle.reader.specs.Refusals.{packed}
use Rattle.reader.proofs.refusal.Told.packed.Goals as goal

pub returns : goal.returns
unfolding packed
returns c = omega arith
