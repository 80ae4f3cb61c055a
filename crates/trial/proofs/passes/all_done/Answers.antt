-- `trial::passes::all_done` meets its contract.
use borrow.Author.Tests.{eq-eqb, ne_eqb}
use Rattle.trial.proofs.PassLaws.{done_is, stops, goes}
use Rattle.trial.proofs.passes.all_done.Goals as goal

pub returns-then-done : goal.returns-then-done
returns-then-done c =
    stops _ _ _ c.loop-j-test.true (done_is _ _ _ _ _ c.either-done.type_inv _ c.either-done.ensures (ne_eqb _ _ c.if-done.true))

pub loop-j-preserved : goal.loop-j-preserved
loop-j-preserved c =
    goes _ _ c.loop-j.invariant (done_is _ _ _ _ _ c.either-done.type_inv _ c.either-done.ensures (eq-eqb _ _ c.if-done.false))
