-- `writer::write_plan` meets its contract.
use mathlib.Core.Path.{refl, ◌∙◌}
use mathlib.Core.List.{[]}
use Rattle.reader.proofs.JobLaws.{filled, unfilled}
use Rattle.writer.proofs.WriteLaws.{hands_on, plan_job_refused, back_sound, plan_refused, plan_sent}
use Rattle.writer.proofs.write_plan.Goals as goal

pub returns-in_err-fill_job : goal.returns-in_err-fill_job
returns-in_err-fill_job c =
    hands_on _ c.from_residual.ensures.1 (plan_job_refused _ _ c.put_job-len.ensures.1 refl (unfilled _ c.fill_job.ensures.answer c.in_err-fill_job.was) _)

pub read_plan-requires : goal.read_plan-requires
read_plan-requires c =
    let read = filled _ c.fill_job.ensures.answer c.in_ok-fill_job.was c.in_ok-fill_job.ensures.job in
    back_sound _ [] c.put_job-len.ensures.1 refl read

pub returns-in_err-read_plan : goal.returns-in_err-read_plan
returns-in_err-read_plan c =
    let read = filled _ c.fill_job.ensures.answer c.in_ok-fill_job.was c.in_ok-fill_job.ensures.job in
    hands_on _ c.from_residual-in_err-read_plan.ensures.1
    (plan_refused _ _ c.put_job-len.ensures.1 refl read
    _ c.put_plan-plan_len.ensures.1 c.read_plan.ensures c.in_err-read_plan.was)

pub returns : goal.returns
returns c =
    let read = filled _ c.fill_job.ensures.answer c.in_ok-fill_job.was c.in_ok-fill_job.ensures.job in
    plan_sent _ _ c.put_job-len.ensures.1 refl read
    _ c.put_plan-plan_len.ensures.1 c.read_plan.ensures c.in_ok-read_plan.was ∙ c.send.ensures
