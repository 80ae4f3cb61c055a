-- What the pass over the tasks gives: the plan's copies, and the answer of A, the ready time, B and C.
use Rattle.std.specs.Prelude.{ℕ, ◌+◌, ◌*◌, ◌^◌, ◌≤◌, ◌<◌, List, ◌≡◌, get_or}
use Rattle.reader.specs.declared.job.Job.{Job}
use Rattle.reader.specs.declared.job.Task.{Task}
use Rattle.reader.specs.declared.plan.Plan.{Plan}
use Rattle.reader.specs.Refusals.{Answer}
use Rattle.reader.specs.Limits.{max_nodes, max_detect, max_send, max_group, max_tasks, max_start, max_time}
use Rattle.reader.specs.Entries.{tasks, detect, send, group, task, place}
use Rattle.reader.specs.Refusals.{answered}
use Rattle.rules.specs.declared.Copy.{Copy}
use Rattle.rules.specs.Copies.{domain}
use Rattle.rules.specs.Rules.{rows}
use Rattle.copies.specs.declared.table.Copies.{Copies}
use Rattle.copies.specs.Sets.{every_group}
use Rattle.copies.specs.Arrival.{Leaving}
use Rattle.copies.specs.Table.{entry, set_at, Whole}
use Rattle.judge.specs.Parts.{by_tasks}

-- a copy of a task: on a node of a rack, and with a finish that a sum can take
pub record CopyFits (task : Task) (node start : ℕ) : Type 0 where
  pub on : node < max_nodes
  pub ends : start + get_or task.run node 0 ≤ max_start + max_time

abbrev pub copy_on : Task → ℕ → ℕ → Copy
copy_on task n s = record { node = n; start = s; finish = s + get_or task.run n 0 }

-- what the pass over a job's tasks rests on: their copies fit, and the detect time and the group of each primary's node and the send times of both
-- nodes do
pub record Placeable (job : Job) (plan : Plan) : Type 0 where
  pub few : tasks job ≤ max_tasks
  pub primary : (j : ℕ) → j < tasks job → CopyFits (task job j) (place plan j).primary_node (place plan j).primary_start
  pub backup : (j : ℕ) → j < tasks job → CopyFits (task job j) (place plan j).backup_node (place plan j).backup_start
  pub detects : (j : ℕ) → j < tasks job → detect job (place plan j).primary_node ≤ max_detect
  pub groups : (j : ℕ) → j < tasks job → group job (place plan j).primary_node ≤ max_group
  pub primary_sends : (j : ℕ) → j < tasks job → send job (place plan j).primary_node ≤ max_send
  pub backup_sends : (j : ℕ) → j < tasks job → send job (place plan j).backup_node ≤ max_send

-- the entries of a table are the plan's copies of the first n tasks
pub record Copied (job : Job) (plan : Plan) (n : ℕ) (at : ℕ → Copy) : Type 0 where
  pub primary : (j : ℕ) → j < n → at (2 * j) ≡ (rows job plan j).primary
  pub backup : (j : ℕ) → j < n → at (2 * j + 1) ≡ (rows job plan j).backup

-- the table has the copies of the first n tasks, every group as the set of each primary, and as each fault set its own primary's group so far
pub record Tabled (job : Job) (plan : Plan) (n : ℕ) (cs : Copies) : Type 0 where
  pub whole : Whole cs
  pub copied : Copied job plan n (entry cs)
  pub primary_set : (j : ℕ) → j < n → set_at cs (2 * j) ≡ every_group
  pub own_set : (j : ℕ) → j < n → set_at cs (2 * j + 1) ≡ 2 ^ domain job (rows job plan j).primary.node

-- the table of all tasks, when the result of each copy leaves, and the answer of A, the ready time, B and C
pub record TasksJudged (job : Job) (plan : Plan) (cs : Copies) (leave : List ℕ) (r : Answer) : Type 0 where
  pub tabled : Tabled job plan (tasks job) cs
  pub leaving : Leaving job (2 * tasks job) cs leave
  pub answer : r ≡ answered (by_tasks job (rows job plan))
