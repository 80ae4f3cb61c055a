-- One task more beside the copies of a plan: the plan's copies as the planner's table, and the place of the new task.
use Rattle.std.specs.Prelude.{ℕ, ◌≤◌, ◌<◌, ◌≡◌}
use Rattle.reader.specs.declared.job.Job.{Job}
use Rattle.reader.specs.declared.job.Task.{Task}
use Rattle.reader.specs.declared.plan.Place.{Place}
use Rattle.reader.specs.declared.plan.Plan.{Plan}
use Rattle.reader.specs.Limits.{max_group}
use Rattle.reader.specs.Entries.{nodes, tasks, links, task, place}
use Rattle.reader.specs.Sound.{Sound, SoundPlace}
use Rattle.rules.specs.declared.Description.{Description}
use Rattle.rules.specs.Rules.{Row, rows_to}
use Rattle.rules.specs.Attempts.{Attempt}
use Rattle.rules.specs.Planner.{place_task, anywhere}
use Rattle.rules.specs.Longer.{longer_job}
use Rattle.copies.specs.Table.{row_of}
use Rattle.judge.specs.Tasks.{CopyFits, copy_on}
use Rattle.planner.specs.declared.board.Board.{Board}
use Rattle.planner.specs.declared.board.Pair.{Pair}
use Rattle.planner.specs.declared.senders.Incoming.{Incoming}
use Rattle.planner.specs.Senders.{Sent, Sending}
use Rattle.planner.specs.Faults.{Faulted}
use Rattle.planner.specs.Tasks.{Beside}
use Rattle.asking.specs.Calls.{Asking}

-- the first n places of a plan read well for a job
abbrev pub PlacesFit : Job → Plan → ℕ → Type 0
PlacesFit job plan n = (j : ℕ) → j < n → SoundPlace (nodes job) (task job j).run (place plan j)

-- both copies of a place, whose primary is in this group, can be taken, and the links to its task walked
pub record Takeable (net : Incoming) (board : Board) (into : ℕ) (t : Task) (x : Place) (group : ℕ) : Type 0 where
  pub primary : CopyFits t x.primary_node x.primary_start
  pub backup : CopyFits t x.backup_node x.backup_start
  pub sending : Sending net board into
  pub group_most : group ≤ max_group

-- they are taken, with the task's fault set
pub record Taken (net : Incoming) (board : Board) (into : ℕ) (t : Task) (x : Place) (group : ℕ) (r : Pair) : Type 0 where
  pub primary : r.primary ≡ copy_on t x.primary_node x.primary_start
  pub backup : r.backup ≡ copy_on t x.backup_node x.backup_start
  pub set : Faulted net board into r.primary group r.set

-- what the table of a plan's first n tasks rests on: the job's links stand by receiver
pub record Storing (job : Job) (plan : Plan) (net : Incoming) (n : ℕ) : Type 0 where
  pub sound : Sound job
  pub sent : Sent job.links (links job) net
  pub within : n ≤ tasks job
  pub fit : PlacesFit job plan n

-- the table has their rows, and the planner can place a task beside it
pub record StoredTo (job : Job) (plan : Plan) (n : ℕ) (board : Board) : Type 0 where
  pub is : row_of board.copies ≡ rows_to job plan n
  pub beside : Beside job n board

-- where the tasks of a plan are stored one by one: of the job with the new task, the links stand by receiver and the first j tasks in the table
pub record BesideTo (job : Job) (plan : Plan) (d : Description) (net : Incoming) (j : ℕ) (board : Board) : Type 0 where
  pub asking : Asking job plan d
  pub storing : Storing (longer_job job d) plan net (tasks job)
  pub stored : StoredTo (longer_job job d) plan j board
  pub within : j ≤ tasks job

-- the planner's step for the longer job's last task, beside the plan
abbrev pub place_new : Job → Plan → Description → Attempt Row
place_new job plan d =
    let n = tasks job in
    let big = longer_job job d in
    place_task big (anywhere n) n (rows_to big plan n) n
