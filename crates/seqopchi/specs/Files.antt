-- What the console's calls give, for any bytes: the first refusal in the order of document 01, and the buffer afterwards.
use Rattle.std.specs.Prelude.{ℕ, ◌*◌, List, [], ◌∷◌}
use Rattle.std.proofs.Math.Option.{Option, none, some}
use Rattle.reader.specs.declared.job.Job.{Job}
use Rattle.reader.specs.declared.plan.Plan.{Plan}
use Rattle.reader.specs.declared.refusal.Refusal.{Refusal}
use Rattle.reader.specs.declared.refusal.Refusal.TheVariants.{NoSuchNode}
use Rattle.reader.specs.First.{◌or_else◌, unless}
use Rattle.reader.specs.Entries.{tasks, empty_plan}
use Rattle.reader.specs.JobFile.{job_fault, job_at}
use Rattle.reader.specs.PlanFile.{plan_length, plan_fault, plan_at}
use Rattle.writer.specs.Write.{pack, flat, plan_bytes, room_fault, Written, writes}
use Rattle.rules.specs.declared.Loss.{Loss}
use Rattle.rules.specs.declared.Loss.TheVariants.{NoLoss, Lost}
use Rattle.rules.specs.Copies.{has_node}
use Rattle.rules.specs.Rules.{Row, rows}
use Rattle.rules.specs.Gathering.{fault_number}
use Rattle.rules.specs.Judge.{breach}
use Rattle.rules.specs.Replay.{TaskRun}
use Rattle.rules.specs.Attempts.{Attempt, refused, placed}
use Rattle.rules.specs.Planner.{planner}
use Rattle.replay.specs.Outcomes.{run_bytes}
use Rattle.replay.specs.TimesFile.{list_fault, list_rows, list_run}

-- the plan of a plan file after a job file
abbrev pub plan_in : List ℕ → List ℕ → Plan
plan_in job plan = plan_at plan (tasks (job_at job))

-- 'reads job, plan': the first fault of both files
unfoldable pub files_fault : List ℕ → List ℕ → Option Refusal
files_fault job plan = job_fault job or_else plan_fault plan (job_at job)

-- 'The judge reads job, plan, then tries 8 to 14 in turn', (ii) and 19 after 8
unfoldable pub judge_files : List ℕ → List ℕ → Option Refusal
judge_files job plan = files_fault job plan or_else breach (job_at job) (rows (job_at job) (plan_in job plan))

-- what an attempt was refused, and what it placed
abbrev pub refusal_of : {A : Type 0} → Attempt A → Option Refusal
refusal_of (refused r) = some r
refusal_of (placed a) = none

abbrev pub plan_or : Attempt Plan → Plan
plan_or (refused r) = empty_plan
plan_or (placed p) = p

-- 'The planner reads the job, then 17 (8 + 16 × N bytes), then plans.'
unfoldable pub plan_file_fault : List ℕ → List ℕ → Option Refusal
plan_file_fault job out =
    job_fault job
    or_else room_fault out (plan_length (tasks (job_at job)))
    or_else refusal_of (planner (job_at job))

unfoldable pub plan_file : List ℕ → List ℕ → Written
plan_file job out = writes (plan_file_fault job out) (plan_bytes (plan_or (planner (job_at job)))) out

-- 18, (vi) 'if the named group has no node'
unfoldable pub loss_fault : Job → Loss → Option Refusal
loss_fault job NoLoss = none
loss_fault job (Lost q f) = unless (has_node job q) (NoSuchNode q)

-- 'Replay reads job, plan, then 18, then 17 (12 × N bytes).' (viii) 'A faulty list gets 1, 4 or 6 by its offset there, after 18 and before 17.'
unfoldable pub replay_fault : List ℕ → List ℕ → Loss → Option (List ℕ) → List ℕ → Option Refusal
replay_fault job plan loss list out =
    files_fault job plan
    or_else loss_fault (job_at job) loss
    or_else list_fault list (job_at job) (plan_in job plan)
    or_else room_fault out (12 * tasks (job_at job))

-- the rows of two files and a list, or none, and their run
abbrev pub rows_in : List ℕ → List ℕ → Option (List ℕ) → ℕ → Row
rows_in job plan list = list_rows list (job_at job) (plan_in job plan)

abbrev pub run_in : List ℕ → List ℕ → Loss → Option (List ℕ) → ℕ → TaskRun
run_in job plan loss list = list_run list (job_at job) (plan_in job plan) loss

unfoldable pub replay_files : List ℕ → List ℕ → Loss → Option (List ℕ) → List ℕ → Written
replay_files job plan loss list out =
    writes (replay_fault job plan loss list out) (run_bytes (job_at job) (rows_in job plan list) (run_in job plan loss list)) out

-- (v) the fault sets of a plan, passed or not: 4 bytes a task, bit q for group q
unfoldable pub fault_bytes : Job → Plan → List ℕ
fault_bytes job plan = pack (flat (tasks job) (λ j. fault_number job plan j ∷ []))

-- reads job, plan, then 17 (4 × N bytes)
unfoldable pub sets_fault : List ℕ → List ℕ → List ℕ → Option Refusal
sets_fault job plan out = files_fault job plan or_else room_fault out (4 * tasks (job_at job))

unfoldable pub sets_files : List ℕ → List ℕ → List ℕ → Written
sets_files job plan out = writes (sets_fault job plan out) (fault_bytes (job_at job) (plan_in job plan)) out
