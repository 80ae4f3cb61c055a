-- What is said of a log that is not at fault, of the newest records, of the times that they give, and of the files that the calls write.
use Rattle.std.specs.Prelude.{ℕ, ◌+◌, ◌-◌, ◌*◌, ◌≤◌, ◌<◌, List, ◌≡◌, length}
use Rattle.std.proofs.Math.Option.{none}
use Rattle.reader.specs.declared.job.Job.{Job}
use Rattle.reader.specs.Limits.{max_time}
use Rattle.reader.specs.Entries.{nodes, tasks, run}
use Rattle.reader.specs.JobFile.{job_fault, job_at}
use Rattle.history.specs.declared.window.Timing.{Timing}
use Rattle.history.specs.Log.{min_ticks, timing_length, records, record_at}
use Rattle.history.specs.Times.{window_size, kept, newest}
use Rattle.history.specs.Calls.{renewed_in}

-- a record of a task and a node of the job, of which the node can run the task, with ticks within their limits
pub record GoodTiming (job : Job) (x : Timing) : Type 0 where
  pub task : x.task ≤ tasks job - 1
  pub node : x.node ≤ nodes job - 1
  pub able : 0 < run job x.task x.node
  pub ticks_least : min_ticks ≤ x.ticks
  pub ticks_most : x.ticks ≤ max_time

-- 'The whole log is read, older records too': it has whole records, and each of them is good
pub record GoodLog (log : List ℕ) (job : Job) : Type 0 where
  pub whole : length log ≡ timing_length * records log
  pub each : (k : ℕ) → k < records log → GoodTiming job (record_at log k)

-- 'the largest ticks seen': t is those of one of m records x that are of task j and node n, and no such record has more
pub record Largest (m : ℕ) (x : ℕ → Timing) (j n t : ℕ) : Type 0 where
  pub at : ℕ
  pub below : at < m
  pub task : (x at).task ≡ j
  pub node : (x at).node ≡ n
  pub is : (x at).ticks ≡ t
  pub bound : (i : ℕ) → i < m → (x i).task ≡ j → (x i).node ≡ n → (x i).ticks ≤ t

-- 'The window moves as records come in': with record c the newest of c records grow by it, as long as there are fewer than the window holds
pub record Grows (all : ℕ → Timing) (c : ℕ) : Type 0 where
  pub more : kept (c + 1) ≡ kept c + 1
  pub same : (i : ℕ) → newest all (c + 1) i ≡ newest all c i
  pub last : newest all (c + 1) (kept c) ≡ all c

-- then the oldest leaves, the others move up, and it is the last
pub record Moves (all : ℕ → Timing) (c : ℕ) : Type 0 where
  pub full : kept (c + 1) ≡ kept c
  pub up : (i : ℕ) → newest all (c + 1) i ≡ newest all c (i + 1)
  pub last : newest all (c + 1) (window_size - 1) ≡ all c

-- a file that is the renewed job
pub record RenewedFile (job log file : List ℕ) : Type 0 where
  pub reads : job_fault file ≡ none
  pub is : job_at file ≡ renewed_in job log
