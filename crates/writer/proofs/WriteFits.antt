-- Every refusal of writing fits its bits in the result.
use Prim.Native.Nat.{ℕ, ◌<◌, ◌^◌}
use native.Mathlib.Omega.{arith}
use mathlib.Core.List.{List}
use lib.ListN.{length}
use Rattle.reader.specs.declared.job.Job.{Job}
use Rattle.reader.specs.declared.plan.Plan.{Plan}
use Rattle.reader.specs.declared.refusal.Refusal.TheVariants.{ShortBuffer}
use Rattle.reader.specs.JobFile.{job_at}
use Rattle.reader.specs.Refusals.{FaultFits}
use Rattle.reader.proofs.FitLaws.{fits_at, fits_unless, fits_or_else, job_fits, plan_fits}
use Rattle.reader.proofs.Promise.{job_sound}
use Rattle.reader.proofs.LengthLaws.{job_most, plan_most}
use Rattle.writer.specs.Write.{job_bytes, plan_bytes, room_fault, write_job_fault, write_plan_fault}

pub room_fits : (out : List ℕ) (n : ℕ) → n < 2 ^ 32 → FaultFits (room_fault out n)
unfolding room_fault
room_fits out n h = fits_unless _ (ShortBuffer n) (fits_at 17 n (omega arith) h)

pub write_job_fits : (job : Job) (out : List ℕ) → FaultFits (write_job_fault job out)
unfolding write_job_fault
write_job_fits job out =
    fits_or_else _ _ (job_fits (job_bytes job)) (λ e.
    room_fits out (length (job_bytes job)) (omega (arith, job_most (job_bytes job) e)))

pub write_plan_fits : (job : Job) (plan : Plan) (out : List ℕ) → FaultFits (write_plan_fault job plan out)
unfolding write_plan_fault
write_plan_fits job plan out =
    fits_or_else _ _ (job_fits (job_bytes job)) (λ e.
    let h = job_sound (job_bytes job) e in
    fits_or_else _ _ (plan_fits (plan_bytes plan) (job_at (job_bytes job)) h) (λ f.
    room_fits out (length (plan_bytes plan)) (omega (arith, plan_most (plan_bytes plan) (job_at (job_bytes job)) h f))))
