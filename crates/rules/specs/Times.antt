-- Copies that finish early, document 02, (viii): how long each copy takes, and the rows of a plan as its copies end.
use Rattle.std.specs.Prelude.{ℕ, ◌+◌, ◌≤◌, ◌<◌, get_or, replicate}
use Rattle.reader.specs.declared.job.Job.{Job}
use Rattle.reader.specs.declared.job.Task.{Task}
use Rattle.reader.specs.declared.plan.Place.{Place}
use Rattle.reader.specs.declared.plan.Plan.{Plan}
use Rattle.reader.specs.First.{fill}
use Rattle.reader.specs.Limits.{max_tasks}
use Rattle.reader.specs.Entries.{tasks, task, place}
use Rattle.rules.specs.declared.Copy.{Copy}
use Rattle.rules.specs.declared.Took.{Took}
use Rattle.rules.specs.declared.Times.{Times}
use Rattle.rules.specs.Rules.{Row, rows}

abbrev pub no_took : Took
no_took = record { primary = 0; backup = 0 }

-- what the copies of task j take; 'per task the primary's and the backup's'
abbrev pub took : Times → ℕ → Took
took times j = get_or times.of j no_took

-- 'its listed run time': that of each copy of task t on its node at place x
unfoldable pub listed_at : Task → Place → Took
listed_at t x = record { primary = get_or t.run x.primary_node 0; backup = get_or t.run x.backup_node 0 }

abbrev pub listed_of : Job → Plan → ℕ → Took
listed_of job plan j = listed_at (task job j) (place plan j)

-- the list of the listed times
unfoldable pub listed_times : Job → Plan → Times
listed_times job plan = record { of = fill (tasks job) (listed_of job plan) (replicate max_tasks no_took) }

-- 'any number of ticks from 1 to its listed run time'
pub record TookSound (most x : Took) : Type 0 where
  pub primary_least : 1 ≤ x.primary
  pub primary_most : x.primary ≤ most.primary
  pub backup_least : 1 ≤ x.backup
  pub backup_most : x.backup ≤ most.backup

pub record TimesSound (job : Job) (plan : Plan) (times : Times) : Type 0 where
  pub within : (j : ℕ) → j < tasks job → TookSound (listed_of job plan j) (took times j)

-- 'starts remain those of the plan': copy c, ending after so many ticks
unfoldable pub ended : Copy → ℕ → Copy
ended c ticks = record { node = c.node; start = c.start; finish = c.start + ticks }

unfoldable pub ended_row : Row → Took → Row
ended_row r x = record { primary = ended r.primary x.primary; backup = ended r.backup x.backup; faults = r.faults }

-- the rows of a plan, each copy as it ends
abbrev pub ended_rows : Job → Plan → Times → ℕ → Row
ended_rows job plan times j = ended_row (rows job plan j) (took times j)
