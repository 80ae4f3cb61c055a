-- `asking::description_file::Shape::of` meets its contract.
use mathlib.Core.Path.{refl}
use Rattle.asking.specs.Sizes.{shape_of}
use Rattle.asking.proofs.description_file.Shape.of.Goals as goal

pub returns : goal.returns
unfolding shape_of
returns c = refl
