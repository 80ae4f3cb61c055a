-- `history::renew_job` meets its contract.
use mathlib.Core.Path.{refl, ◌∙◌}
use Rattle.reader.proofs.JobLaws.{filled, unfilled}
use Rattle.history.proofs.CallLaws.{job_refused, job_sound, room_refused, log_refused, renew_is, renew_written}
use Rattle.history.proofs.renew_job.Goals as goal

pub returns-in_err-fill_job : goal.returns-in_err-fill_job
returns-in_err-fill_job c =
    renew_is _ _ _ ∙ job_refused _ _ _ _ _ _ refl _ (unfilled c.args.file.now c.fill_job.ensures.answer c.in_err-fill_job.was) c.from_residual.ensures.1

pub returns-in_err-room : goal.returns-in_err-room
returns-in_err-room c =
    let read = filled c.args.file.now c.fill_job.ensures.answer c.in_ok-fill_job.was c.in_ok-fill_job.ensures.job in
    renew_is _ _ _ ∙ room_refused _ _ _ _ _ _ refl _ read _ refl
    _ c.room.ensures.answer _ c.in_err-room.was c.from_residual-in_err-room.ensures.1

pub renew-requires : goal.renew-requires
renew-requires c =
    let read = filled c.args.file.now c.fill_job.ensures.answer c.in_ok-fill_job.was c.in_ok-fill_job.ensures.job in
    job_sound _ refl read

pub returns-in_err-new : goal.returns-in_err-new
returns-in_err-new c =
    let read = filled c.args.file.now c.fill_job.ensures.answer c.in_ok-fill_job.was c.in_ok-fill_job.ensures.job in
    renew_is _ _ _ ∙ log_refused _ _ _ _ _ _ refl _ read _ refl
    _ c.room.ensures.answer c.in_ok-room.was _ c.renew.ensures _ c.in_err-new.was c.from_residual-in_err-new.ensures.1

pub returns : goal.returns
returns c =
    let read = filled c.args.file.now c.fill_job.ensures.answer c.in_ok-fill_job.was c.in_ok-fill_job.ensures.job in
    renew_written _ _ _ _ refl _ read _ _ c.room.ensures.answer c.in_ok-room.was
    _ c.renew.ensures _ c.in_ok-new.was refl c.in_ok-room.ensures.fits c.write_job.ensures
