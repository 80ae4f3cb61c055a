-- Run times from the last runs, document 02, (x): for any records, in the order in which they came; and the job that has these run times.
use Rattle.std.specs.Prelude.{ℕ, zero, suc, ◌+◌, ◌-◌, ◌*◌, max, min, cond, List, [], ◌∷◌, eqb, replicate}
use Rattle.reader.specs.declared.job.Job.{Job}
use Rattle.reader.specs.declared.job.Task.{Task}
use Rattle.reader.specs.Tests.{◌and◌}
use Rattle.reader.specs.First.{fill}
use Rattle.reader.specs.Limits.{max_nodes, max_tasks}
use Rattle.reader.specs.Entries.{nodes, tasks, links, task, run, blank_task}
use Rattle.writer.specs.Write.{flat}
use Rattle.history.specs.declared.window.Timing.{Timing}
use Rattle.history.specs.Log.{records, record_at}

-- the largest of f 0, f 1, .. f (m - 1); 0 where there is none
unfoldable pub most : ℕ → (ℕ → ℕ) → ℕ
most zero f = 0
most (suc m) f = max (most m f) (f m)

-- the ticks of a record of task j and node n; 0, which no record has, where it is of another
unfoldable pub ticks_on : ℕ → ℕ → Timing → ℕ
ticks_on j n x = cond (eqb x.task j and eqb x.node n) x.ticks 0

-- a time seen, or the job's where there is none
unfoldable pub or_else_run : ℕ → ℕ → ℕ
or_else_run zero run = run
or_else_run (suc t) run = suc t

-- 'for each task and node the largest ticks seen, or the job's run time where there is none': worked out afresh from m records x 0, x 1, ..
unfoldable pub afresh : Job → ℕ → (ℕ → Timing) → ℕ → ℕ → ℕ
afresh job m x j n = or_else_run (most m (λ i. ticks_on j n (x i))) (run job j n)

-- 'the newest 256 records (the newest stands last in the log), or all if fewer': how many of c records these are, and which
abbrev pub window_size : ℕ
window_size = 256

abbrev pub kept : ℕ → ℕ
kept c = min c window_size

abbrev pub newest : (ℕ → Timing) → ℕ → ℕ → Timing
newest all c i = all (c - window_size + i)

-- the run time of task j on node n after the first c of these records; and after those of a log
abbrev pub time_after : Job → (ℕ → Timing) → ℕ → ℕ → ℕ → ℕ
time_after job all c = afresh job (kept c) (newest all c)

abbrev pub log_time : Job → List ℕ → ℕ → ℕ → ℕ
log_time job log = time_after job (record_at log) (records log)

-- 'The table is written task by task, in each by node': its numbers, and its bytes, '4 × N × P'
unfoldable pub table_numbers : Job → (ℕ → ℕ → ℕ) → List ℕ
table_numbers job time = flat (tasks job) (λ j. flat (nodes job) (λ n. time j n ∷ []))

abbrev pub table_length : Job → ℕ
table_length job = 4 * (nodes job * tasks job)

-- a task with these run times on p nodes, and the job with these run times: all else of it stays
unfoldable pub renewed_task : ℕ → (ℕ → ℕ) → Task → Task
renewed_task p time t = record { ready = t.ready; deadline = t.deadline; run = fill p time (replicate max_nodes 0) }

unfoldable pub renewed : Job → (ℕ → ℕ → ℕ) → Job
renewed job time = record {
  version = job.version;
  node_count = nodes job;
  nodes = job.nodes;
  task_count = tasks job;
  tasks = fill (tasks job) (λ j. renewed_task (nodes job) (time j) (task job j)) (replicate max_tasks blank_task);
  link_count = links job;
  links = job.links;
}
