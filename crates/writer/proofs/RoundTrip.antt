-- Round trips: accepted bytes are written back equal, and what is written reads back equal.
use Prim.Native.Nat.{ℕ}
use native.Mathlib.Omega.{arith}
use mathlib.Core.Path.{◌≡◌}
use mathlib.Core.List.{List}
use mathlib.Core.Option.{none}
use Rattle.reader.specs.declared.job.Job.{Job}
use Rattle.reader.specs.declared.plan.Plan.{Plan}
use Rattle.reader.specs.Entries.{tasks}
use Rattle.reader.specs.Sound.{Sound}
use Rattle.reader.specs.JobFile.{job_fault, job_at}
use Rattle.reader.specs.PlanFile.{plan_fault, plan_at}
use Rattle.writer.specs.Write.{job_numbers, job_bytes, plan_numbers, plan_bytes}
use Rattle.writer.specs.Equality.{SameJob, SamePlan}
use Rattle.reader.specs.Number.{Bytes, Words}
use Rattle.reader.proofs.Accepted.{job_good, plan_good}
use Rattle.reader.proofs.Promise.{job_sound, plan_sound}
use Rattle.writer.proofs.Segments.{stands_same, stands_pack, pack_stands}
use Rattle.writer.proofs.FileNumbers.{job_stands, plan_stands}
use Rattle.writer.proofs.SameNumbers.{job_same, plan_same}

pub job_written_back : (s : List ℕ) → Bytes s → job_fault s ≡ none → job_bytes (job_at s) ≡ s
unfolding job_bytes
job_written_back s b e = stands_pack s _ 0 b (job_stands s (job_good s e))

pub plan_written_back : (s : List ℕ) (job : Job) → Sound job → Bytes s → plan_fault s job ≡ none → plan_bytes (plan_at s (tasks job)) ≡ s
unfolding plan_bytes
plan_written_back s job h b e = stands_pack s _ 0 b (plan_stands s job h (plan_good s job e))

pub job_read_back : (job : Job) → Words (job_numbers job) → job_fault (job_bytes job) ≡ none → SameJob (job_at (job_bytes job)) job
unfolding job_bytes
job_read_back job w e =
    let h = job_sound (job_bytes job) e in
    job_same _ job h.nodes_most h.tasks_most h.links_most
    (stands_same (job_bytes job) _ _ _ _ (job_stands (job_bytes job) (job_good (job_bytes job) e)) (pack_stands (job_numbers job) w))

pub plan_read_back : (plan : Plan) (job : Job) → Sound job → Words (plan_numbers plan) → plan_fault (plan_bytes plan) job ≡ none →
    SamePlan (plan_at (plan_bytes plan) (tasks job)) plan
unfolding plan_bytes
plan_read_back plan job h w e =
    let g = plan_sound (plan_bytes plan) job h e in
    plan_same _ plan (omega (arith, g.count, h.tasks_most))
    (stands_same (plan_bytes plan) _ _ _ _ (plan_stands (plan_bytes plan) job h (plan_good (plan_bytes plan) job e)) (pack_stands (plan_numbers plan) w))
