-- Both files read and judged: a refusal of either, or of the judge, or both.
use mathlib.Core.Path.{refl}
use Rattle.reader.proofs.JobLaws.{filled, unfilled}
use Rattle.seqopchi.proofs.ReadLaws.{job_sound, job_stops, plan_stops, both_done, both_sound}
use Rattle.booking.proofs.HeldCalls.{unread, unpassed, passed}
use Rattle.booking.proofs.passed_files.Goals as goal

pub returns-in_err-fill_job : goal.returns-in_err-fill_job
returns-in_err-fill_job c =
    unread _ _ (job_stops c.args.job.now refl _ (unfilled c.args.job.now c.fill_job.ensures.answer c.in_err-fill_job.was)) _
    c.from_residual.ensures.1 _

pub read_plan-requires : goal.read_plan-requires
read_plan-requires c =
    let read = filled c.args.job.now c.fill_job.ensures.answer c.in_ok-fill_job.was c.in_ok-fill_job.ensures.job in
    job_sound c.args.job.now refl read

pub returns-in_err-places : goal.returns-in_err-places
returns-in_err-places c =
    let read = filled c.args.job.now c.fill_job.ensures.answer c.in_ok-fill_job.was c.in_ok-fill_job.ensures.job in
    unread _ _ (plan_stops c.args.job.now refl read c.args.plan.now c.read_plan.ensures c.in_err-places.was) _
    c.from_residual-in_err-places.ensures.1 _

pub judge_plan-requires : goal.judge_plan-requires
judge_plan-requires c =
    let read = filled c.args.job.now c.fill_job.ensures.answer c.in_ok-fill_job.was c.in_ok-fill_job.ensures.job in
    both_sound _ _ _ _ (both_done c.args.job.now refl read c.args.plan.now c.read_plan.ensures c.in_ok-places.was)

pub returns-in_err-judge_plan : goal.returns-in_err-judge_plan
returns-in_err-judge_plan c =
    let read = filled c.args.job.now c.fill_job.ensures.answer c.in_ok-fill_job.was c.in_ok-fill_job.ensures.job in
    let done = both_done c.args.job.now refl read c.args.plan.now c.read_plan.ensures c.in_ok-places.was in
    unpassed _ _ done c.judge_plan.ensures c.in_err-judge_plan.was _ c.from_residual-in_err-judge_plan.ensures.1 _

pub returns : goal.returns
returns c =
    let read = filled c.args.job.now c.fill_job.ensures.answer c.in_ok-fill_job.was c.in_ok-fill_job.ensures.job in
    let done = both_done c.args.job.now refl read c.args.plan.now c.read_plan.ensures c.in_ok-places.was in
    passed _ _ done c.judge_plan.ensures c.in_ok-judge_plan.was
