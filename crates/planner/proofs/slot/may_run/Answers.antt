-- `planner::slot::may_run` meets its contract.
use mathlib.Core.Bool.{not}
use mathlib.Core.Path.{sym, ◌∙◌, ap}
use native.Mathlib.Omega.{arith}
use borrow.Author.Tests.{eq-eqb, lt-ltb, le-ltb}
use Rattle.reader.proofs.TestLaws.{and_if, and_unless}
use Rattle.planner.proofs.slot.may_run.Goals as goal

pub returns-then-run-ne0 : goal.returns-then-run-ne0
returns-then-run-ne0 c = ap not c.holds.ensures ∙ sym (and_if _ _ (lt-ltb 0 c.args.run (omega arith)))

pub returns-else-run-ne0 : goal.returns-else-run-ne0
returns-else-run-ne0 c = ap not (eq-eqb c.args.run 0 (omega arith)) ∙ sym (and_unless _ _ (le-ltb 0 c.args.run (omega arith)))
