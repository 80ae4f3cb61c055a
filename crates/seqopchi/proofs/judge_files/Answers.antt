-- The judge's call: a file is refused, or the judge answers.
use mathlib.Core.Path.{refl}
use Rattle.reader.proofs.JobLaws.{filled, unfilled}
use Rattle.reader.proofs.Chain.{stop, handed}
use Rattle.seqopchi.specs.Files.{judge_files}
use Rattle.seqopchi.proofs.ReadLaws.{job_sound, job_stops, plan_stops, both_done, both_sound, judged}
use Rattle.seqopchi.proofs.judge_files.Goals as goal

pub returns-in_err-fill_job : goal.returns-in_err-fill_job
unfolding judge_files
returns-in_err-fill_job c =
    handed _ _ c.from_residual.ensures.1 (stop _ (job_stops c.args.job.now refl _ (unfilled c.args.job.now c.fill_job.ensures.answer c.in_err-fill_job.was)))

pub read_plan-requires : goal.read_plan-requires
read_plan-requires c =
    let read = filled c.args.job.now c.fill_job.ensures.answer c.in_ok-fill_job.was c.in_ok-fill_job.ensures.job in
    job_sound c.args.job.now refl read

pub returns-in_err-places : goal.returns-in_err-places
unfolding judge_files
returns-in_err-places c =
    let read = filled c.args.job.now c.fill_job.ensures.answer c.in_ok-fill_job.was c.in_ok-fill_job.ensures.job in
    handed _ _ c.from_residual-in_err-places.ensures.1 (stop _ (plan_stops c.args.job.now refl read _ c.read_plan.ensures c.in_err-places.was))

pub judge_plan-requires : goal.judge_plan-requires
judge_plan-requires c =
    let read = filled c.args.job.now c.fill_job.ensures.answer c.in_ok-fill_job.was c.in_ok-fill_job.ensures.job in
    both_sound _ _ _ _ (both_done c.args.job.now refl read _ c.read_plan.ensures c.in_ok-places.was)

pub returns : goal.returns
returns c =
    let read = filled c.args.job.now c.fill_job.ensures.answer c.in_ok-fill_job.was c.in_ok-fill_job.ensures.job in
    judged _ _ _ _ (both_done c.args.job.now refl read _ c.read_plan.ensures c.in_ok-places.was) _ c.judge_plan.ensures
