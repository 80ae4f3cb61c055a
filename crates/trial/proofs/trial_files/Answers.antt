-- A file is refused, or the plan of both is tried.
use mathlib.Core.Path.{refl}
use Rattle.reader.proofs.Chain.{stopped, finished}
use Rattle.reader.proofs.JobLaws.{filled, unfilled}
use Rattle.seqopchi.proofs.ReadLaws.{job_sound, job_stops, plan_stops, both_done, both_sound}
use Rattle.trial.proofs.TriedFiles.{tried_good}
use Rattle.trial.proofs.trial_files.Goals as goal

pub returns-in_err-fill_job : goal.returns-in_err-fill_job
returns-in_err-fill_job c =
    let bad = unfilled c.args.job.now c.fill_job.ensures.answer c.in_err-fill_job.was in
    stopped _ c.from_residual.ensures.1 (job_stops c.args.job.now refl _ bad)

pub read_plan-requires : goal.read_plan-requires
read_plan-requires c =
    let read = filled c.args.job.now c.fill_job.ensures.answer c.in_ok-fill_job.was c.in_ok-fill_job.ensures.job in
    job_sound c.args.job.now refl read

pub returns-in_err-places : goal.returns-in_err-places
returns-in_err-places c =
    let read = filled c.args.job.now c.fill_job.ensures.answer c.in_ok-fill_job.was c.in_ok-fill_job.ensures.job in
    stopped _ c.from_residual-in_err-places.ensures.1 (plan_stops c.args.job.now refl read _ c.read_plan.ensures c.in_err-places.was)

pub trial_plan-requires : goal.trial_plan-requires
trial_plan-requires c =
    let read = filled c.args.job.now c.fill_job.ensures.answer c.in_ok-fill_job.was c.in_ok-fill_job.ensures.job in
    both_sound _ _ _ _ (both_done c.args.job.now refl read _ c.read_plan.ensures c.in_ok-places.was)

pub returns : goal.returns
returns c =
    let read = filled c.args.job.now c.fill_job.ensures.answer c.in_ok-fill_job.was c.in_ok-fill_job.ensures.job in
    let both = both_done c.args.job.now refl read _ c.read_plan.ensures c.in_ok-places.was in
    finished both.fault (tried_good _ _ _ _ both c.trial_plan.ensures)
