-- What the loop of `history::renewed::put_table` keeps.
use Rattle.history.proofs.TableLaws.{TableTo}
use Rattle.history.proofs.renewed.put_table.Given as goal

abbrev pub invariant-loop-task : goal.invariant-loop-task
invariant-loop-task l = TableTo l.job l.initial.out l.task-index l.out l.at
