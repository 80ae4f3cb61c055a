-- Round trips of the whole functions: write what was read, and read what was written.
use Prim.Native.Nat.{ℕ, ◌≤◌}
use mathlib.Core.Path.{◌≡◌, ap, ◌∙◌}
use mathlib.Core.List.{List}
use mathlib.Core.Option.{Option, none}
use lib.ListN.{length, take, drop}
use lib.Seq.{take-append_seam}
use borrow.Author.Tests.{le-leb}
use Rattle.reader.specs.declared.job.Job.{Job}
use Rattle.reader.specs.declared.plan.Plan.{Plan}
use Rattle.reader.specs.declared.refusal.Refusal.{Refusal}
use Rattle.std.specs.Prelude.{Ok}
use Rattle.reader.specs.JobFile.{job_at, read_job}
use Rattle.reader.specs.PlanFile.{plan_fault, plan_at, read_plan}
use Rattle.reader.specs.Entries.{tasks}
use Rattle.reader.specs.Sound.{Sound}
use Rattle.writer.specs.Write.{job_numbers, job_bytes, plan_numbers, plan_bytes, room_fault, write_job_fault, write_plan_fault}
use Rattle.writer.specs.Write.{writes, wrote, write_job, write_plan}
use Rattle.writer.specs.Equality.{JobIn, PlanIn}
use Rattle.reader.specs.Number.{Bytes, Words}
use Rattle.reader.proofs.FirstLaws.{or_else_l, or_else_r, or_else_i, none_unless}
use Rattle.reader.proofs.RefusalLaws.{resulted_none, resulted_value, answered_done}
use Rattle.reader.proofs.Promise.{job_sound}
use Rattle.writer.proofs.RoundTrip.{job_written_back, plan_written_back, job_read_back, plan_read_back}

room_none : (out : List ℕ) (n : ℕ) → n ≤ length out → room_fault out n ≡ none
unfolding room_fault
room_none out n h = none_unless _ _ (le-leb n (length out) h)

writes_none : (o : Option Refusal) (s out : List ℕ) → o ≡ none → writes o s out ≡ wrote s out
writes_none o s out e = rw e

-- what stands in the buffer after a success
writes_done : (o : Option Refusal) (s out : List ℕ) → (writes o s out).answer ≡ Ok tt → (o ≡ none) × (take (length s) (writes o s out).buffer ≡ s)
writes_done o s out d = let e = (answered_done o).0 d in (e, rw e (take-append_seam s (drop (length s) out)))

pub job_rewritten : (s out : List ℕ) (job : Job) → Bytes s → read_job s ≡ Ok job → length s ≤ length out → write_job job out ≡ wrote s out
unfolding read_job write_job write_job_fault
job_rewritten s out job b d h =
    let e = resulted_none _ _ d in
    rw (resulted_value _ _ d, job_written_back s b e) (writes_none _ s out (or_else_i _ _ e (room_none out (length s) h)))

pub plan_rewritten : (f s out : List ℕ) (job : Job) (plan : Plan) → Bytes f → Bytes s → read_job f ≡ Ok job → read_plan s job ≡ Ok plan
    → length s ≤ length out → write_plan job plan out ≡ wrote s out
unfolding read_job read_plan write_plan write_plan_fault
plan_rewritten f s out job plan bf bs df ds h =
    let e = resulted_none _ _ df in
    let is : job ≡ job_at f = resulted_value _ _ df in
    let sound : Sound job = rw is (job_sound f e) in
    let ok : plan_fault s job ≡ none = resulted_none _ _ ds in
    let jb : job_bytes job ≡ f = rw is (job_written_back f bf e) in
    let xb : plan_bytes plan ≡ s = ap plan_bytes (resulted_value _ _ ds) ∙ plan_written_back s job sound bs ok in
    let after : plan_fault s (job_at f) ≡ none = rw (← is) ok in
    rw (jb, xb) (writes_none _ s out (or_else_i _ _ e (or_else_i _ _ after (room_none out (length s) h))))

pub job_reread : (job : Job) (out : List ℕ) → Words (job_numbers job) → (write_job job out).answer ≡ Ok tt →
    JobIn (take (length (job_bytes job)) (write_job job out).buffer) job
unfolding write_job write_job_fault read_job
job_reread job out w d =
    let r = writes_done _ (job_bytes job) out d in
    let e = or_else_l _ _ r.0 in
    rw r.1 (record { back = job_at (job_bytes job); reads = rw e; same = job_read_back job w e })

-- the plan is read after the job that was written
pub plan_reread : (job : Job) (plan : Plan) (out : List ℕ) → Words (plan_numbers plan) → (write_plan job plan out).answer ≡ Ok tt →
    (back : Job) × (read_job (job_bytes job) ≡ Ok back) × PlanIn (take (length (plan_bytes plan)) (write_plan job plan out).buffer) back plan
unfolding write_plan write_plan_fault read_job read_plan
plan_reread job plan out w d =
    let r = writes_done _ (plan_bytes plan) out d in
    let back = job_at (job_bytes job) in
    let j = or_else_l _ _ r.0 in
    let e = or_else_l _ _ (or_else_r _ _ r.0) in
    let same = plan_read_back plan back (job_sound (job_bytes job) j) w e in
    (back, rw j, rw r.1 (record { back = plan_at (plan_bytes plan) (tasks back); reads = rw e; same = same }))
