-- What the loop of `history::renewed::new_tasks` keeps.
use mathlib.Core.Path.{◌≡◌}
use lib.ListN.{replicate}
use Rattle.reader.specs.First.{fill}
use Rattle.reader.specs.Limits.{max_tasks}
use Rattle.reader.specs.Entries.{blank_task}
use Rattle.history.specs.Promise.{new_task}
use Rattle.history.proofs.renewed.new_tasks.Given as goal

abbrev pub invariant-loop-j : goal.invariant-loop-j
invariant-loop-j l = l.list ≡ fill l.j (new_task l.seen l.nodes l.tasks) (replicate max_tasks blank_task)
