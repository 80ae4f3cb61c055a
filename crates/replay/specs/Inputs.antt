-- When a task's result goes out, and from where.
use Rattle.std.specs.Prelude.{ℕ, unwrap_or}
use Rattle.reader.specs.declared.plan.Place.{Place}
use Rattle.replay.specs.declared.states.Outcome.{Outcome}
use Rattle.replay.specs.declared.states.State.{State}
use Rattle.replay.specs.declared.states.State.TheVariants.{NotStarted, Cut, Finished}

-- later than any start
abbrev pub never : ℕ
never = 4_000_000

-- of a task of outcome o: the finish of its finished copy
unfoldable pub sent_at : Outcome → ℕ
sent_at o = unwrap_or o.finish never

-- of a task at place x whose primary ended so: the node of the finished copy; without one it says nothing
abbrev pub node_of : State → Place → ℕ
node_of Finished x = x.primary_node
node_of NotStarted x = x.backup_node
node_of Cut x = x.backup_node

-- and of place x: the node of that copy
unfoldable pub sent_from : Outcome → Place → ℕ
sent_from o x = node_of o.primary x
