-- A list of actual times after its job and plan, document 02, (viii): its first fault in file order, and the times, each number where it stands.
use Rattle.std.specs.Prelude.{ℕ, ◌+◌, ◌*◌, ◌<◌, List, [], ◌∷◌, ◌≡◌, length, replicate}
use Rattle.std.specs.Prelude.{Option as Maybe, Some, None}
use Rattle.std.specs.Borrow.{Bor}
use Rattle.std.proofs.Math.Option.{Option, none, some}
use Rattle.reader.specs.declared.job.Job.{Job}
use Rattle.reader.specs.declared.plan.Plan.{Plan}
use Rattle.reader.specs.declared.refusal.Refusal.{Refusal}
use Rattle.reader.specs.First.{◌or_else◌, first, fill}
use Rattle.reader.specs.Limits.{max_tasks}
use Rattle.reader.specs.Entries.{tasks}
use Rattle.reader.specs.Number.{number_at, value_fault}
use Rattle.reader.specs.JobFile.{tail_fault}
use Rattle.writer.specs.Write.{pack, flat}
use Rattle.rules.specs.declared.Loss.{Loss}
use Rattle.rules.specs.declared.Took.{Took}
use Rattle.rules.specs.declared.Times.{Times}
use Rattle.rules.specs.Rules.{Row, rows}
use Rattle.rules.specs.Times.{no_took, took, listed_of, listed_times, TookSound, ended_rows}
use Rattle.rules.specs.Replay.{TaskRun, replay, replay_times}

-- 'any number of ticks from 1 to its listed run time', of both copies of a task
unfoldable pub took_fault : List ℕ → ℕ → Took → Option Refusal
took_fault s at most = value_fault s at 1 most.primary or_else value_fault s (at + 4) 1 most.backup

unfoldable pub took_at : List ℕ → ℕ → Took
took_at s at = record { primary = number_at s at; backup = number_at s (at + 4) }

-- 'per task the primary's and the backup's': 8 × N bytes. 'A faulty list gets 1, 4 or 6 by its offset there'
unfoldable pub times_fault : List ℕ → Job → Plan → Option Refusal
times_fault s job plan = first (tasks job) (λ j. took_fault s (8 * j) (listed_of job plan j)) or_else tail_fault s (8 * tasks job)

-- the times of n tasks
unfoldable pub times_at : List ℕ → ℕ → Times
times_at s n = record { of = fill n (λ j. took_at s (8 * j)) (replicate max_tasks no_took) }

-- a list that has each time, within its limits, and nothing else
pub record GoodTimes (s : List ℕ) (job : Job) (plan : Plan) : Type 0 where
  pub size : length s ≡ 8 * tasks job
  pub within : (j : ℕ) → j < tasks job → TookSound (listed_of job plan j) (took_at s (8 * j))

-- the bytes of a list of n tasks
unfoldable pub times_bytes : Times → ℕ → List ℕ
times_bytes times n = pack (flat n (λ j. (took times j).primary ∷ (took times j).backup ∷ []))

-- of a list that is given or not: without one there is no fault, and each copy takes what is listed
unfoldable pub list_fault : Option (List ℕ) → Job → Plan → Option Refusal
list_fault none job plan = none
list_fault (some s) job plan = times_fault s job plan

unfoldable pub list_times : Option (List ℕ) → Job → Plan → Times
list_times none job plan = listed_times job plan
list_times (some s) job plan = times_at s (tasks job)

-- such a list, as a call is given it
abbrev pub list_of : Maybe (Bor (List ℕ)) → Option (List ℕ)
list_of None = none
list_of (Some s) = some s.now

-- its times
unfoldable pub times_in : Option (List ℕ) → Job → Maybe Times
times_in none job = None
times_in (some s) job = Some (times_at s (tasks job))

-- what is taken where times are given or not
unfoldable pub chosen : Maybe Times → Job → Plan → Times
chosen None job plan = listed_times job plan
chosen (Some times) job plan = times

-- and of the two numbers of task j, of which these are listed
unfoldable pub took_by : Maybe Times → ℕ → Took → Took
took_by None j most = most
took_by (Some times) j most = took times j

-- the rows of a plan as its copies end, and their run: by the list; without one, as planned
unfoldable pub list_rows : Option (List ℕ) → Job → Plan → ℕ → Row
list_rows none job plan = rows job plan
list_rows (some s) job plan = ended_rows job plan (times_at s (tasks job))

unfoldable pub list_run : Option (List ℕ) → Job → Plan → Loss → ℕ → TaskRun
list_run none job plan loss = replay job plan loss
list_run (some s) job plan loss = replay_times job plan (times_at s (tasks job)) loss
