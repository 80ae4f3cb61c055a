-- The call that tells fault sets: a refusal of a file or of the buffer, or the sets.
use mathlib.Core.Path.{refl}
use Rattle.reader.proofs.Chain.{handed}
use Rattle.reader.proofs.JobLaws.{filled, unfilled}
use Rattle.reader.proofs.NumberLaws.{is_none, is_fault}
use Rattle.seqopchi.specs.Files.{sets_files}
use Rattle.seqopchi.proofs.ReadLaws.{hands, roomy, job_sound, job_stops, plan_stops, both_done, both_sound}
use Rattle.seqopchi.proofs.SetsLaws.{sets_stops, sets_room_fault, sets_put}
use Rattle.seqopchi.proofs.sets_files.Goals as goal

pub returns-in_err-fill_job : goal.returns-in_err-fill_job
returns-in_err-fill_job c =
    sets_stops _ _ _ _ (job_stops c.args.job.now refl _ (unfilled c.args.job.now c.fill_job.ensures.answer c.in_err-fill_job.was))
    (handed _ _ c.from_residual.ensures.1 refl)

pub read_plan-requires : goal.read_plan-requires
read_plan-requires c =
    let read = filled c.args.job.now c.fill_job.ensures.answer c.in_ok-fill_job.was c.in_ok-fill_job.ensures.job in
    job_sound c.args.job.now refl read

pub returns-in_err-places : goal.returns-in_err-places
returns-in_err-places c =
    let read = filled c.args.job.now c.fill_job.ensures.answer c.in_ok-fill_job.was c.in_ok-fill_job.ensures.job in
    sets_stops _ _ _ _ (plan_stops c.args.job.now refl read _ c.read_plan.ensures c.in_err-places.was)
    (handed _ _ c.from_residual-in_err-places.ensures.1 refl)

pub returns-in_err-room : goal.returns-in_err-room
unfolding sets_files
returns-in_err-room c =
    let read = filled c.args.job.now c.fill_job.ensures.answer c.in_ok-fill_job.was c.in_ok-fill_job.ensures.job in
    hands _ _ _ c.from_residual-in_err-room.ensures.1
    (sets_room_fault _ _ _ _ (both_done c.args.job.now refl read _ c.read_plan.ensures c.in_ok-places.was) _
    (is_fault _ _ _ c.room.ensures.answer c.in_err-room.was))

pub plan_sets-requires : goal.plan_sets-requires
plan_sets-requires c =
    let read = filled c.args.job.now c.fill_job.ensures.answer c.in_ok-fill_job.was c.in_ok-fill_job.ensures.job in
    both_sound _ _ _ _ (both_done c.args.job.now refl read _ c.read_plan.ensures c.in_ok-places.was)

pub put_sets-requires : goal.put_sets-requires
put_sets-requires c =
    let read = filled c.args.job.now c.fill_job.ensures.answer c.in_ok-fill_job.was c.in_ok-fill_job.ensures.job in
    let both = both_sound _ _ _ _ (both_done c.args.job.now refl read _ c.read_plan.ensures c.in_ok-places.was) in
    (both.0.tasks_most, roomy _ _ (is_none _ _ _ c.room.ensures.answer c.in_ok-room.was))

pub returns : goal.returns
returns c =
    let read = filled c.args.job.now c.fill_job.ensures.answer c.in_ok-fill_job.was c.in_ok-fill_job.ensures.job in
    sets_put _ _ _ _ (both_done c.args.job.now refl read _ c.read_plan.ensures c.in_ok-places.was) _ (is_none _ _ _ c.room.ensures.answer c.in_ok-room.was)
    _ c.plan_sets.ensures _ c.put_sets.ensures
