-- `reader::plan::Plan::empty` meets its contract.
use mathlib.Core.Path.{refl}
use Rattle.reader.specs.Entries.{empty_plan}
use Rattle.reader.proofs.plan.Plan.empty.Goals as goal

pub returns : goal.returns
unfolding empty_plan
returns c = refl
