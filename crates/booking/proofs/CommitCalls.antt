-- Laws of a commit into two buffers: refused, or no room for the longer job, or for the longer plan, or both are written.
use Prim.Native.Nat.{ℕ, ◌<◌}
use native.Mathlib.Omega.{arith}
use mathlib.Core.Path.{◌≡◌, refl, sym, ap, ap₂, ◌∙◌, subst}
use mathlib.Core.List.{List, ◌++◌}
use mathlib.Core.Option.{Option, none, some}
use lib.ListN.{length, take, drop}
use borrow.Author.Tests.{lt-leb}
use Rattle.reader.specs.declared.refusal.Refusal.{Refusal}
use Rattle.reader.specs.declared.refusal.Refusal.TheVariants.{ShortBuffer}
use Rattle.std.specs.Prelude.{Result, Ok, Err, IsErrAnd}
use Rattle.reader.specs.declared.job.Job.{Job}
use Rattle.reader.specs.declared.plan.Plan.{Plan}
use Rattle.reader.specs.Refusals.{Answer, answered, result_number}
use Rattle.reader.specs.Sound.{Sound, PlanSound}
use Rattle.reader.specs.PlanFile.{plan_length}
use Rattle.reader.proofs.TestLaws.{never}
use Rattle.reader.proofs.FirstLaws.{some_unless, or_else_i}
use Rattle.reader.proofs.NumberLaws.{is_none}
use Rattle.reader.proofs.Chain.{pass, stop}
use Rattle.writer.specs.Write.{job_numbers, job_bytes, plan_numbers, plan_bytes, room_fault}
use Rattle.writer.specs.Puts.{Puts}
use Rattle.writer.proofs.PutLaws.{length_pack}
use Rattle.writer.proofs.WriteLaws.{front}
use Rattle.writer.proofs.SoundWrites.{sound_plan_length}
use Rattle.rules.specs.Attempts.{Attempt, refused, placed}
use Rattle.rules.specs.Asking.{Booked}
use Rattle.asking.specs.Calls.{committed, with_job}
use Rattle.booking.specs.Asks.{commit_files, Booking, books_in, rooms_fault, books, commit_into}
use Rattle.seqopchi.proofs.PlanLaws.{put_front}
use Rattle.booking.proofs.AskedFiles.{booked_file_passes}
use Rattle.booking.proofs.AskCalls.{err_is, paired, refused_pair}

commit_refused : (t : Attempt Booked) (b : Result (Job × Plan) Refusal) {r : Refusal} → b ≡ committed t → b ≡ Err r → t ≡ refused r
unfolding committed
commit_refused (refused s) b {r} e q = cc
commit_refused (placed y) b {r} e q = never (cc)

commit_placed : (t : Attempt Booked) (b : Result (Job × Plan) Refusal) {x : Job × Plan} → b ≡ committed t → b ≡ Ok x
    → t ≡ placed (record { job = x.0; plan = x.1 })
unfolding committed
commit_placed (refused s) b {x} e q = never (cc)
commit_placed (placed y) b {x} e q =
    let same : ◌≡◌ {A = Job × Plan} (y.job, y.plan) x = cc in ap (λ z. placed (record { job = z.0; plan = z.1 })) same

-- a sound job and a plan of it, into two buffers
module _ (job : Job) (plan : Plan) (held : Sound job × PlanSound job plan) (out_job out_plan : List ℕ) where
  abbrev pair : Booked
  pair = record { job = job; plan = plan }

  -- with this answer both buffers are left
  abbrev Left : Answer → Type 0
  Left a = books (placed pair) out_job out_plan ≡ record { answer = a; job = out_job; plan = out_plan }

  left : {r : Refusal} → Left (Err r) → (w : Answer) → IsErrAnd w (λ e. e ≡ r) → Left w
  left l w h = subst Left (sym (err_is w h)) l

  with_fault : {fault : Option Refusal} → rooms_fault pair out_job out_plan ≡ fault
      → books (placed pair) out_job out_plan ≡ books_in fault pair out_job out_plan
  unfolding books
  with_fault e = rw e

  plan_size : plan_length plan.task_count ≡ length (plan_bytes plan)
  plan_size = ap plan_length held.1.count ∙ sound_plan_length job plan held.0 held.1

  -- the job's numbers were put
  module _ {z s : List ℕ} {n : ℕ} (put : Puts z 0 (job_numbers job) s n) where
    job_size : n ≡ length (job_bytes job)
    unfolding job_bytes
    job_size = omega (arith, put.behind, length_pack (job_numbers job))

    pub no_job_room : {r : Refusal} → room_fault out_job n ≡ some r → (w : Answer) → IsErrAnd w (λ e. e ≡ r) → Left w
    unfolding rooms_fault
    no_job_room h = left (with_fault (stop _ (ap (room_fault out_job) (sym job_size) ∙ h)))

    module _ (room : room_fault out_job n ≡ none) where
      has_room : room_fault out_job (length (job_bytes job)) ≡ none
      has_room = ap (room_fault out_job) (sym job_size) ∙ room

      pub no_plan_room : {r : Refusal} → room_fault out_plan (plan_length plan.task_count) ≡ some r
          → (w : Answer) → IsErrAnd w (λ e. e ≡ r) → Left w
      unfolding rooms_fault
      no_plan_room h = left (with_fault (pass _ has_room ∙ ap (room_fault out_plan) (sym plan_size) ∙ h))

      pub both_written : room_fault out_plan (plan_length plan.task_count) ≡ none → {y : List ℕ} {m : ℕ} → Puts out_plan 0 (plan_numbers plan) y m
          → books (placed pair) out_job out_plan ≡ record { answer = Ok tt; job = take n s ++ drop n out_job; plan = y }
      unfolding rooms_fault job_bytes plan_bytes
      both_written h puts =
          with_fault (or_else_i _ _ has_room (ap (room_fault out_plan) (sym plan_size) ∙ h))
          ∙ ap₂ (λ f g. record { answer = Ok tt; job = f; plan = g })
          (ap₂ (λ f k. f ++ drop k out_job) (sym (front z (job_numbers job) s n put)) (sym job_size))
          (put_front puts)

-- the plan's buffer is found too short by a test of its length
pub short_plan : (job : Job) (plan : Plan) (out_job out_plan z s : List ℕ) (n : ℕ) (a : Answer) → Sound job × PlanSound job plan
    → Puts z 0 (job_numbers job) s n → a ≡ answered (room_fault out_job n) → a ≡ Ok tt → length out_plan < plan_length plan.task_count
    → books (placed (record { job = job; plan = plan })) out_job out_plan
    ≡ record { answer = Err (ShortBuffer (plan_length plan.task_count)); job = out_job; plan = out_plan }
unfolding room_fault
short_plan job plan out_job out_plan z s n a held put room is h =
    no_plan_room job plan held out_job out_plan put (is_none _ _ _ room is) (some_unless _ _ _ (lt-leb (plan_length plan.task_count) (length out_plan) h) refl)
    (Err (ShortBuffer (plan_length plan.task_count))) refl

-- the commit before it: refused, or a sound job and a plan of it
module _ (file plan booking : List ℕ) {b : Result Plan Refusal} (job : Job) (is : with_job b job ≡ committed (commit_files file plan booking)) where
  pub into_refused : {r : Refusal} → b ≡ Err r → (w : Answer) → IsErrAnd w (λ e. e ≡ r) → (out_job out_plan : List ℕ)
      → commit_into file plan booking out_job out_plan ≡ record { answer = w; job = out_job; plan = out_plan }
  unfolding commit_into books
  into_refused q w h out_job out_plan = rw (commit_refused _ _ is (refused_pair job q), err_is w h) refl

  module _ {x : Plan} (done : b ≡ Ok x) where
    booked : commit_files file plan booking ≡ placed (record { job = job; plan = x })
    booked = commit_placed _ _ is (paired job done)

    pub both_sound : Sound job × PlanSound job x
    both_sound = let held = booked_file_passes file plan booking _ booked in (held.sound, held.planned)

    pub into_buffers : {w : Booking} (out_job out_plan : List ℕ) → books (placed (record { job = job; plan = x })) out_job out_plan ≡ w
        → commit_into file plan booking out_job out_plan ≡ w
    unfolding commit_into
    into_buffers out_job out_plan e = rw booked e

-- C is given the answer's result, and both buffers
pub given_both : {w : Booking} {a : Answer} {j p : List ℕ} {n : ℕ} → w ≡ record { answer = a; job = j; plan = p } → n ≡ result_number a
    → (n ≡ result_number w.answer) × (j ≡ w.job) × (p ≡ w.plan)
given_both e q = (q ∙ sym (ap (λ w. result_number w.answer) e), sym (ap (λ w. w.job) e), sym (ap (λ w. w.plan) e))
