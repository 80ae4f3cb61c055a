-- A job file and a plan file held over a sequence of asks and commits, document 02 (iii), as the calls answer and write.
use Rattle.std.specs.Prelude.{ℕ, suc, ◌+◌, ◌≤◌, List, ◌≡◌, length, take}
use Rattle.reader.specs.declared.plan.Place.{Place}
use Rattle.reader.specs.Entries.{nodes, tasks, links}
use Rattle.reader.specs.Refusals.{answered, result_number}
use Rattle.reader.specs.JobFile.{job_length, job_at}
use Rattle.reader.specs.PlanFile.{plan_length}
use Rattle.rules.specs.Description.{new_links}
use Rattle.rules.specs.Attempts.{placed}
use Rattle.seqopchi.specs.Files.{judge_files, plan_file}
use Rattle.booking.specs.Asks.{new_in, ask_files, Booking, commit_into, booking_of}

pub record Files : Type 0 where
  pub job : List ℕ
  pub plan : List ℕ

-- the judge's call passes them
abbrev pub FilesPass : Files → Type 0
FilesPass a = result_number (answered (judge_files a.job a.plan)) ≡ 0

-- the plan is the planner's own: what its call writes for the job, into any buffer with room
abbrev pub plan_room : Files → ℕ
plan_room a = plan_length (tasks (job_at a.job))

abbrev pub FilesOwn : Files → Type 0
FilesOwn a = (out : List ℕ) → plan_room a ≤ length out
    → (result_number (plan_file a.job out).answer ≡ 0) × (take (plan_room a) (plan_file a.job out).buffer ≡ a.plan)

-- the lengths of the longer job and of the longer plan, of one task more and its links
abbrev pub job_need : Files → List ℕ → ℕ
job_need a booking =
    let job = job_at a.job in
    job_length job.version (nodes job) (suc (tasks job)) (links job + new_links (new_in a.job booking))

abbrev pub plan_need : Files → ℕ
plan_need a = plan_length (suc (tasks (job_at a.job)))

-- the call of a commit, and the two files that it has written
abbrev pub commits : Files → List ℕ → List ℕ → List ℕ → Booking
commits a booking out_job out_plan = commit_into a.job a.plan booking out_job out_plan

abbrev pub written : Files → List ℕ → Booking → Files
written a booking b = record { job = take (job_need a booking) b.job; plan = take (plan_need a) b.plan }

-- one call: asking books nothing, a refused commit changes nothing, and one that answers 0 hands back the next two files
pub data FileCall (a : Files) : Files → Type 0 where
  asks : List ℕ → FileCall a a
  declined : (booking out_job out_plan : List ℕ) → (result_number (commits a booking out_job out_plan).answer ≡ 0 → ⊥) → FileCall a a
  books : (booking out_job out_plan : List ℕ) → result_number (commits a booking out_job out_plan).answer ≡ 0
      → FileCall a (written a booking (commits a booking out_job out_plan))

-- 'every sequence of asks and commits'
pub data FileCalls (a : Files) : Files → Type 0 where
  begin : FileCalls a a
  next : {b c : Files} → FileCalls a b → FileCall b c → FileCalls a c

-- a sequence in which each commit takes the place that was asked for, with no commit between
pub data FilesAgreed (a : Files) : Files → Type 0 where
  start : FilesAgreed a a
  agree : {b : Files} (task out_job out_plan : List ℕ) (x : Place) → FilesAgreed a b → ask_files b.job b.plan task ≡ placed x
      → result_number (commits b (booking_of task x) out_job out_plan).answer ≡ 0
      → FilesAgreed a (written b (booking_of task x) (commits b (booking_of task x) out_job out_plan))
