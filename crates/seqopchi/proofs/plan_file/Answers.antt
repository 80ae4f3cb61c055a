-- The planner's call: a refusal of the file, of the buffer or of the planner, or the plan's bytes.
use mathlib.Core.Path.{refl}
use Rattle.reader.proofs.JobLaws.{filled, unfilled}
use Rattle.reader.proofs.NumberLaws.{is_none, is_fault}
use Rattle.writer.proofs.WriteLaws.{hands_on}
use Rattle.seqopchi.specs.Files.{plan_file}
use Rattle.seqopchi.proofs.ReadLaws.{hands, job_sound}
use Rattle.seqopchi.proofs.PlanLaws.{job_refused, no_room_fault, no_place_lem, fits, plan_written}
use Rattle.seqopchi.proofs.plan_file.Goals as goal

pub returns-in_err-fill_job : goal.returns-in_err-fill_job
returns-in_err-fill_job c =
    hands_on _ c.from_residual.ensures.1 (job_refused c.args.job.now _ refl (unfilled c.args.job.now c.fill_job.ensures.answer c.in_err-fill_job.was))

pub returns-in_err-room : goal.returns-in_err-room
unfolding plan_file
returns-in_err-room c =
    let read = filled c.args.job.now c.fill_job.ensures.answer c.in_ok-fill_job.was c.in_ok-fill_job.ensures.job in
    hands _ _ _ c.from_residual-in_err-room.ensures.1
    (no_room_fault c.args.job.now _ refl read (is_fault _ _ _ c.room.ensures.answer c.in_err-room.was))

pub plan_job-requires : goal.plan_job-requires
plan_job-requires c =
    let read = filled c.args.job.now c.fill_job.ensures.answer c.in_ok-fill_job.was c.in_ok-fill_job.ensures.job in
    job_sound c.args.job.now refl read

pub returns-in_err-plan : goal.returns-in_err-plan
returns-in_err-plan c =
    let read = filled c.args.job.now c.fill_job.ensures.answer c.in_ok-fill_job.was c.in_ok-fill_job.ensures.job in
    hands_on _ c.from_residual-in_err-plan.ensures.1
    (no_place_lem c.args.job.now _ refl read (is_none _ _ _ c.room.ensures.answer c.in_ok-room.was) c.plan_job.ensures c.in_err-plan.was)

pub put_plan-requires : goal.put_plan-requires
put_plan-requires c =
    let read = filled c.args.job.now c.fill_job.ensures.answer c.in_ok-fill_job.was c.in_ok-fill_job.ensures.job in
    fits c.args.job.now _ refl read (is_none _ _ _ c.room.ensures.answer c.in_ok-room.was) c.plan_job.ensures c.in_ok-plan.was

pub returns : goal.returns
returns c =
    let read = filled c.args.job.now c.fill_job.ensures.answer c.in_ok-fill_job.was c.in_ok-fill_job.ensures.job in
    plan_written c.args.job.now _ refl read (is_none _ _ _ c.room.ensures.answer c.in_ok-room.was) c.plan_job.ensures c.in_ok-plan.was
    _ _ c.put_plan.ensures.1
