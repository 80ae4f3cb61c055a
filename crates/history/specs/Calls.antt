-- What the calls on a job and a log give, for any bytes.
use Rattle.std.specs.Prelude.{ℕ, List, length}
use Rattle.std.proofs.Math.Option.{Option}
use Rattle.reader.specs.declared.job.Job.{Job}
use Rattle.reader.specs.declared.refusal.Refusal.{Refusal}
use Rattle.reader.specs.First.{◌or_else◌}
use Rattle.reader.specs.JobFile.{job_fault, job_at}
use Rattle.writer.specs.Write.{pack, job_bytes, room_fault, Written, writes}
use Rattle.history.specs.Log.{log_fault}
use Rattle.history.specs.Times.{log_time, table_numbers, table_length, renewed}

-- 'The job is read first, then comes 17 (4 × N × P bytes).' Then the log; of any call that needs so many bytes
unfoldable pub call_fault : List ℕ → List ℕ → List ℕ → ℕ → Option Refusal
call_fault job log out need = job_fault job or_else room_fault out need or_else log_fault log (job_at job)

-- '.. and the table handed out is unchanged' on a refusal
unfoldable pub table_fault : List ℕ → List ℕ → List ℕ → Option Refusal
table_fault job log out = call_fault job log out (table_length (job_at job))

unfoldable pub table_bytes : List ℕ → List ℕ → List ℕ
table_bytes job log = pack (table_numbers (job_at job) (log_time (job_at job) log))

unfoldable pub run_times : List ℕ → List ℕ → List ℕ → Written
run_times job log out = writes (table_fault job log out) (table_bytes job log) out

-- the job with these run times: its file is as long as the job's
unfoldable pub renew_fault : List ℕ → List ℕ → List ℕ → Option Refusal
renew_fault job log out = call_fault job log out (length job)

abbrev pub renewed_in : List ℕ → List ℕ → Job
renewed_in job log = renewed (job_at job) (log_time (job_at job) log)

unfoldable pub renew_job : List ℕ → List ℕ → List ℕ → Written
renew_job job log out = writes (renew_fault job log out) (job_bytes (renewed_in job log)) out
