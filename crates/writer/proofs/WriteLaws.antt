-- Laws of writing a file: what was put is read back, refused, or sent.
use Prim.Native.Nat.{ℕ, ◌<◌}
use mathlib.Core.Path.{◌≡◌, sym, ap, ◌∙◌}
use mathlib.Core.List.{List}
use mathlib.Core.Option.{Option, none, some}
use lib.ListN.{length, take}
use native.Mathlib.Omega.{arith}
use borrow.Author.Tests.{lt-leb}
use Rattle.reader.specs.declared.job.Job.{Job}
use Rattle.reader.specs.declared.plan.Plan.{Plan}
use Rattle.reader.specs.declared.refusal.Refusal.{Refusal}
use Rattle.reader.specs.declared.refusal.Refusal.TheVariants.{ShortBuffer}
use Rattle.std.specs.Prelude.{Result, Ok, Err, IsErrAnd}
use Rattle.reader.specs.First.{◌or_else◌, unless}
use Rattle.reader.specs.Refusals.{Answer, resulted}
use Rattle.reader.specs.Sound.{Sound}
use Rattle.reader.specs.JobFile.{job_fault, job_at, read_job}
use Rattle.reader.specs.PlanFile.{plan_fault, plan_at, read_plan}
use Rattle.reader.specs.Entries.{tasks}
use Rattle.writer.specs.Write.{pack, job_numbers, job_bytes, plan_numbers, plan_bytes, room_fault, Written, writes, write_job_fault, write_plan_fault}
use Rattle.writer.specs.Write.{write_job, write_plan}
use Rattle.writer.specs.Puts.{Puts}
use Rattle.reader.proofs.RefusalLaws.{resulted_none, resulted_value, resulted_fault}
use Rattle.reader.proofs.Promise.{job_sound}
use Rattle.writer.proofs.PutLaws.{length_pack, take_splice}

-- the front of a buffer that a file's numbers were put into
pub front : (d vs b : List ℕ) (n : ℕ) → Puts d 0 vs b n → take n b ≡ pack vs
front d vs b n p =
    let e : n ≡ length (pack vs) = omega (arith, length_pack vs) in
    rw (p.buffer, e) (take_splice d (pack vs))

-- a fault, or none, and then the next
module _ (f g : Option Refusal) (s out : List ℕ) where
  writes_refused : {r : Refusal} → f ≡ some r → writes (f or_else g) s out ≡ record { answer = Err r; buffer = out }
  unfolding ◌or_else◌
  writes_refused h = rw h

  writes_next : f ≡ none → writes (f or_else g) s out ≡ writes g s out
  unfolding ◌or_else◌
  writes_next h = rw h

-- a buffer that is too short
pub send_short : (s out : List ℕ) → length out < length s
    → writes (room_fault out (length s)) s out ≡ record { answer = Err (ShortBuffer (length s)); buffer = out }
unfolding room_fault unless
send_short s out h = rw lt-leb

-- what a `?` hands on
pub hands_on : {x : Written} {out : List ℕ} {q : Refusal} (w : Answer) → IsErrAnd w (λ r. r ≡ q) → x ≡ record { answer = Err q; buffer = out }
    → x ≡ record { answer = w; buffer = out }
hands_on (Ok v) h e = absurd h
hands_on (Err r) h e = rw h e

-- the job's numbers were put, and its file was read back
module _ (job : Job) (out : List ℕ) {z b : List ℕ} {n : ℕ} (put : Puts z 0 (job_numbers job) b n)
    {r : Result Job Refusal} (read : r ≡ read_job (take n b)) where
  file : take n b ≡ job_bytes job
  unfolding job_bytes
  file = front z (job_numbers job) b n put

  answer : resulted (job_fault (job_bytes job)) (job_at (job_bytes job)) ≡ r
  unfolding read_job
  answer = sym (read ∙ ap read_job file)

  module _ {q : Refusal} (err : r ≡ Err q) where
    pub job_refused : write_job job out ≡ record { answer = Err q; buffer = out }
    unfolding write_job write_job_fault
    job_refused = writes_refused _ _ (job_bytes job) out (resulted_fault _ _ (answer ∙ err))

    pub plan_job_refused : (plan : Plan) → write_plan job plan out ≡ record { answer = Err q; buffer = out }
    unfolding write_plan write_plan_fault
    plan_job_refused plan = writes_refused _ _ (plan_bytes plan) out (resulted_fault _ _ (answer ∙ err))

  module _ {j : Job} (ok : r ≡ Ok j) where
    fine : job_fault (job_bytes job) ≡ none
    fine = resulted_none _ _ (answer ∙ ok)

    back : j ≡ job_at (job_bytes job)
    back = resulted_value _ _ (answer ∙ ok)

    pub back_sound : Sound j
    back_sound = rw back (job_sound (job_bytes job) fine)

    pub job_sent : write_job job out ≡ writes (room_fault out (length (take n b))) (take n b) out
    unfolding write_job write_job_fault
    job_sent = rw file (writes_next _ _ (job_bytes job) out fine)

    -- and then a plan's
    module _ (plan : Plan) {y d : List ℕ} {m : ℕ} (puts : Puts y 0 (plan_numbers plan) d m)
        {p : Result Plan Refusal} (reads : p ≡ read_plan (take m d) j) where
      plan_file_lem : take m d ≡ plan_bytes plan
      unfolding plan_bytes
      plan_file_lem = front y (plan_numbers plan) d m puts

      fault : Option Refusal
      fault = plan_fault (plan_bytes plan) (job_at (job_bytes job))

      plan_answer : resulted fault (plan_at (plan_bytes plan) (tasks (job_at (job_bytes job)))) ≡ p
      unfolding read_plan fault
      plan_answer = sym (reads ∙ rw (plan_file_lem, back))

      next : write_plan job plan out ≡ writes (fault or_else room_fault out (length (plan_bytes plan))) (plan_bytes plan) out
      unfolding write_plan write_plan_fault fault
      next = writes_next _ _ (plan_bytes plan) out fine

      pub plan_refused : {q : Refusal} → p ≡ Err q → write_plan job plan out ≡ record { answer = Err q; buffer = out }
      plan_refused h = next ∙ writes_refused _ _ (plan_bytes plan) out (resulted_fault _ _ (plan_answer ∙ h))

      pub plan_sent : {x : Plan} → p ≡ Ok x → write_plan job plan out ≡ writes (room_fault out (length (take m d))) (take m d) out
      plan_sent h = next ∙ rw plan_file_lem (writes_next _ _ (plan_bytes plan) out (resulted_none _ _ (plan_answer ∙ h)))
