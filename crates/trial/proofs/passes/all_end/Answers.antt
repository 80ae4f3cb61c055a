-- `trial::passes::all_end` meets its contract.
use Rattle.std.proofs.Common.{rules}
use borrow.Author.Tests.{eq-eqb, ne_eqb}
use Rattle.trial.proofs.PassLaws.{ends_is, stops, goes}
use Rattle.trial.proofs.passes.all_end.Goals as goal

pub returns-then-outcomes-j : goal.returns-then-outcomes-j
returns-then-outcomes-j c =
    stops _ _ _ c.loop-j-test.true (ends_is _ _ (search rules) _ (ne_eqb _ _ c.if-outcomes-j.true))

pub loop-j-preserved : goal.loop-j-preserved
loop-j-preserved c = goes _ _ c.loop-j.invariant (ends_is _ _ (search rules) _ (eq-eqb _ _ c.if-outcomes-j.false))
