-- The log of a rack, document 02, (x): 'task, node, ticks taken (1 to 1,000,000), three numbers a record'; its first fault, and its records.
use Rattle.std.specs.Prelude.{ℕ, ◌+◌, ◌-◌, ◌*◌, ◌/◌, List, length}
use Rattle.std.proofs.Math.Option.{Option}
use Rattle.reader.specs.declared.job.Job.{Job}
use Rattle.reader.specs.declared.refusal.Refusal.{Refusal}
use Rattle.reader.specs.First.{◌or_else◌, first}
use Rattle.reader.specs.Limits.{max_time}
use Rattle.reader.specs.Entries.{nodes, tasks, task}
use Rattle.reader.specs.Number.{number_at, value_fault}
use Rattle.reader.specs.PlanFile.{node_fault}
use Rattle.history.specs.declared.window.Timing.{Timing}

-- 'ticks taken (1 to 1,000,000)'
abbrev pub min_ticks : ℕ
min_ticks = 1

-- the bytes of a record: three numbers
abbrev pub timing_length : ℕ
timing_length = 12

-- the record at an offset
unfoldable pub timing_at : List ℕ → ℕ → Timing
timing_at s at = record { task = number_at s at; node = number_at s (at + 4); ticks = number_at s (at + 8) }

-- 'Log faults get 1, 4 or 7 at the offset of the number read (7 at the node)': 'a node listed with run time 0 may not occur for that task'
unfoldable pub timing_fault : List ℕ → Job → ℕ → Option Refusal
timing_fault s job at =
    value_fault s at 0 (tasks job - 1)
    or_else node_fault s (at + 4) (nodes job) (task job (number_at s at)).run or_else value_fault s (at + 8) min_ticks max_time

-- how many records a log has, the last of them perhaps cut short: a number is due while bytes are left; record k
unfoldable pub records : List ℕ → ℕ
records s = (length s + 11) / timing_length

abbrev pub record_at : List ℕ → ℕ → Timing
record_at s k = timing_at s (timing_length * k)

abbrev pub record_fault : List ℕ → Job → ℕ → Option Refusal
record_fault s job k = timing_fault s job (timing_length * k)

-- 'The whole log is read, older records too.'
unfoldable pub log_fault : List ℕ → Job → Option Refusal
log_fault s job = first (records s) (record_fault s job)
