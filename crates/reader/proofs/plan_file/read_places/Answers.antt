-- `reader::plan_file::read_places` meets its contract.
use mathlib.Core.Path.{refl}
use native.Mathlib.Omega.{arith}
use Rattle.reader.specs.First.{◌or_else◌}
use Rattle.reader.specs.PlanFile.{places_at}
use Rattle.reader.proofs.Chain.{stopped, finished, reads_none, reads_some, reads_value}
use Rattle.reader.proofs.ReadLoop.{read_start, read_more, read_stop, read_fine, read_end}
use Rattle.reader.proofs.plan_file.read_places.Goals as goal

pub loop-j-init : goal.loop-j-init
loop-j-init c = read_start _ _ _ _ _ _ refl refl

pub returns-in_err-list : goal.returns-in_err-list
unfolding ◌or_else◌
returns-in_err-list c =
    stopped _ c.from_residual.ensures.1
    (read_stop _ _ _ _ _ _ _ _ c.loop-j.invariant c.loop-j-test.true (reads_some c.read_place.ensures c.in_err-list.was))

pub loop-j-preserved : goal.loop-j-preserved
loop-j-preserved c =
    let r = c.read_place.ensures in
    let q = c.in_ok-list.was in
    read_more _ _ _ _ _ _ _ _ c.loop-j.invariant _ c.loop-j-test.true (reads_none r q) (reads_value r q)

pub returns : goal.returns
unfolding places_at ◌or_else◌
returns c =
    let l = c.loop-j.invariant in
    finished (read_fine _ _ _ _ _ _ _ _ l (omega arith)) (read_end _ _ _ _ _ _ _ _ l (omega arith)).1
