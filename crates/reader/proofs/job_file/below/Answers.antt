-- `reader::job_file::below` meets its contract: the order of tuples, whichever way it is compared.
use Rattle.std.proofs.lemmas.Grind.{common_steps}
use native.Mathlib.Omega.{arith}
use Rattle.reader.specs.Tests.{◌and◌, ◌or◌}
use Rattle.reader.specs.Sound.{below}
use Rattle.reader.proofs.job_file.below.Goals as goal

pub returns : goal.returns
unfolding below ◌and◌ ◌or◌
returns c = grind (arith, common_steps)
