-- What the functions that read a log, and that renew a job, promise each other.
use Rattle.std.specs.Prelude.{ℕ, ◌<◌, List, ◌≡◌, get_or, Result}
use Rattle.reader.specs.declared.job.Job.{Job}
use Rattle.reader.specs.declared.job.Task.{Task}
use Rattle.reader.specs.declared.refusal.Refusal.{Refusal}
use Rattle.reader.specs.Limits.{max_nodes, max_tasks}
use Rattle.reader.specs.Entries.{nodes, tasks, task, run, no_task}
use Rattle.reader.specs.Reads.{Reads}
use Rattle.history.specs.declared.times.RunTimes.{RunTimes}
use Rattle.history.specs.declared.window.Timing.{Timing}
use Rattle.history.specs.declared.window.Window.{Window}
use Rattle.history.specs.Log.{timing_at, timing_fault, records, record_at, log_fault}
use Rattle.history.specs.Times.{or_else_run, renewed_task}
use Rattle.history.specs.Window.{cell_of}
use Rattle.history.specs.Ring.{Formed, Holding}

-- a list of a number for each cell has the job's run times
pub record Runs (job : Job) (runs : List ℕ) : Type 0 where
  pub is : (j n : ℕ) → j < max_tasks → n < max_nodes → get_or runs (cell_of j n) 0 ≡ run job j n

-- and how many tasks and nodes it has
pub record TimesOf (job : Job) (times : RunTimes) : Type 0 where
  pub tasks : tasks job ≡ times.tasks
  pub nodes : nodes job ≡ times.nodes
  pub runs : Runs job times.runs

-- of every job of these run times, the record at an offset
abbrev pub OneRead : List ℕ → RunTimes → ℕ → Result Timing Refusal → Type 0
OneRead log times at result = (job : Job) → TimesOf job times → Reads (timing_fault log job at) result (λ x. x ≡ timing_at log at)

-- and the whole log
abbrev pub AllRead : List ℕ → RunTimes → Result Window Refusal → Type 0
AllRead log times result =
    (job : Job) → TimesOf job times → Reads (log_fault log job) result (λ w. Formed w × Holding (record_at log) (records log) w)

-- the time of task j on node n, of ticks seen that stand in a list, for a task of these run times; and for a job
abbrev pub row_time : List ℕ → List ℕ → ℕ → ℕ → ℕ
row_time seen row j n = or_else_run (get_or seen (cell_of j n) 0) (get_or row n 0)

unfoldable pub table_time : List ℕ → Job → ℕ → ℕ → ℕ
table_time seen job j = row_time seen (task job j).run j

-- task j of a list, on p nodes, with such times
unfoldable pub new_task : List ℕ → ℕ → List Task → ℕ → Task
new_task seen p list j = let t = get_or list j no_task in renewed_task p (row_time seen t.run j) t
