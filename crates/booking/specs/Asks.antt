-- Asking for a place in files, and taking it, document 02 (iii): the first refusal in its order, what is handed back, and the buffers afterwards.
use Rattle.std.specs.Prelude.{ℕ, List, ◌++◌, length, get_or}
use Rattle.std.proofs.Math.Option.{Option, none, some}
use Rattle.reader.specs.declared.job.Job.{Job}
use Rattle.reader.specs.declared.plan.Place.{Place}
use Rattle.reader.specs.declared.refusal.Refusal.{Refusal}
use Rattle.reader.specs.Refusals.{Answer}
use Rattle.std.specs.Prelude.{Err}
use Rattle.reader.specs.First.{◌or_else◌, fill}
use Rattle.reader.specs.Refusals.{answered}
use Rattle.reader.specs.JobFile.{job_at}
use Rattle.writer.specs.Write.{pack, place_numbers, job_bytes, plan_bytes, room_fault, buffer_after}
use Rattle.rules.specs.declared.Description.{Description}
use Rattle.rules.specs.Description.{full_fault}
use Rattle.rules.specs.Attempts.{Attempt, refused, placed}
use Rattle.rules.specs.Asking.{ask, Booked, commit}
use Rattle.asking.specs.DescriptionFile.{description_at, question_fault, booking_fault, booked_place}
use Rattle.seqopchi.specs.Files.{plan_in, judge_files}

-- the description in a file after its job file
abbrev pub new_in : List ℕ → List ℕ → Description
new_in job task = description_at task (job_at job)

-- a step, where nothing was refused before it
unfoldable pub unless_refused : {A : Type 0} → Option Refusal → Attempt A → Attempt A
unless_refused none a = a
unless_refused (some r) a = refused r

-- 'Its faults get 1 or 3 to 7 by offset there, after job and plan are judged, and asking may end in 15 or 16. Refused: 20, full, .., once the
-- description, a commit's four numbers and the tail are read; 21, stale, .. last.' `bad` are the faults of the description or of the booking
unfoldable pub steps_fault : (List ℕ → Job → Option Refusal) → List ℕ → List ℕ → List ℕ → Option Refusal
steps_fault bad job plan task = judge_files job plan or_else bad task (job_at job) or_else full_fault (job_at job) (new_in job task)

abbrev pub ask_fault : List ℕ → List ℕ → List ℕ → Option Refusal
ask_fault = steps_fault question_fault

unfoldable pub ask_files : List ℕ → List ℕ → List ℕ → Attempt Place
ask_files job plan task = unless_refused (ask_fault job plan task) (ask (job_at job) (plan_in job plan) (new_in job task))

abbrev pub commit_fault : List ℕ → List ℕ → List ℕ → Option Refusal
commit_fault = steps_fault booking_fault

unfoldable pub commit_files : List ℕ → List ℕ → List ℕ → Attempt Booked
commit_files job plan booking =
    unless_refused (commit_fault job plan booking)
    (commit (job_at job) (plan_in job plan) (new_in job booking) (booked_place booking (job_at job)))

-- what asking writes: its four numbers, and on a refusal nothing
abbrev pub places_after : Attempt Place → List ℕ → List ℕ
places_after (placed x) out = fill 4 (λ i. get_or (place_numbers x) i 0) out
places_after (refused r) out = out

-- what a commit writes: the longer job and the longer plan as files, and on a refusal nothing
pub record Booking : Type 0 where
  pub answer : Answer
  pub job : List ℕ
  pub plan : List ℕ

abbrev pub books_in : Option Refusal → Booked → List ℕ → List ℕ → Booking
books_in fault b out_job out_plan =
    record { answer = answered fault; job = buffer_after fault (job_bytes b.job) out_job; plan = buffer_after fault (plan_bytes b.plan) out_plan }

-- 17 comes last, for the job first, then for the plan
unfoldable pub rooms_fault : Booked → List ℕ → List ℕ → Option Refusal
rooms_fault b out_job out_plan = room_fault out_job (length (job_bytes b.job)) or_else room_fault out_plan (length (plan_bytes b.plan))

unfoldable pub books : Attempt Booked → List ℕ → List ℕ → Booking
books (refused r) out_job out_plan = record { answer = Err r; job = out_job; plan = out_plan }
books (placed b) out_job out_plan = books_in (rooms_fault b out_job out_plan) b out_job out_plan

unfoldable pub commit_into : List ℕ → List ℕ → List ℕ → List ℕ → List ℕ → Booking
commit_into job plan booking out_job out_plan = books (commit_files job plan booking) out_job out_plan

-- 'a commit adds the four plan numbers': the booking of a place for the task that was asked about
abbrev pub booking_of : List ℕ → Place → List ℕ
booking_of task x = task ++ pack (place_numbers x)
