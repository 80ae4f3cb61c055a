-- What the loop of `history::renewed::new_task` keeps.
use mathlib.Core.Path.{◌≡◌}
use lib.ListN.{replicate}
use Rattle.reader.specs.First.{fill}
use Rattle.reader.specs.Limits.{max_nodes}
use Rattle.history.specs.Promise.{row_time}
use Rattle.history.proofs.renewed.new_task.Given as goal

abbrev pub invariant-loop-n : goal.invariant-loop-n
invariant-loop-n l = l.run ≡ fill l.n (row_time l.seen l.task.run l.j) (replicate max_nodes 0)
