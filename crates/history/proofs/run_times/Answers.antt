-- `history::run_times` meets its contract.
use mathlib.Core.Path.{refl, ◌∙◌}
use native.Mathlib.Omega.{arith}
use Rattle.reader.proofs.Chain.{reads_value}
use Rattle.reader.proofs.JobLaws.{filled, unfilled}
use Rattle.history.proofs.CallLaws.{job_refused, job_sound, room_refused, log_refused, table_is, table_asks, table_small, table_needs, table_written}
use Rattle.history.proofs.run_times.Goals as goal

pub returns-in_err-fill_job : goal.returns-in_err-fill_job
returns-in_err-fill_job c =
    table_is _ _ _ ∙ job_refused _ _ _ _ _ _ refl _ (unfilled c.args.file.now c.fill_job.ensures.answer c.in_err-fill_job.was) c.from_residual.ensures.1

pub overflow_mul-need-2 : goal.overflow_mul-need-2
overflow_mul-need-2 c =
    let read = filled c.args.file.now c.fill_job.ensures.answer c.in_ok-fill_job.was c.in_ok-fill_job.ensures.job in
    omega (arith, table_small _ (job_sound _ refl read))

pub returns-in_err-room : goal.returns-in_err-room
returns-in_err-room c =
    let read = filled c.args.file.now c.fill_job.ensures.answer c.in_ok-fill_job.was c.in_ok-fill_job.ensures.job in
    table_is _ _ _ ∙ room_refused _ _ _ _ _ _ refl _ read _ (table_asks _ refl read)
    _ c.room.ensures.answer _ c.in_err-room.was c.from_residual-in_err-room.ensures.1

pub renew-requires : goal.renew-requires
renew-requires c =
    let read = filled c.args.file.now c.fill_job.ensures.answer c.in_ok-fill_job.was c.in_ok-fill_job.ensures.job in
    job_sound _ refl read

pub returns-in_err-new : goal.returns-in_err-new
returns-in_err-new c =
    let read = filled c.args.file.now c.fill_job.ensures.answer c.in_ok-fill_job.was c.in_ok-fill_job.ensures.job in
    table_is _ _ _ ∙ log_refused _ _ _ _ _ _ refl _ read _ (table_asks _ refl read)
    _ c.room.ensures.answer c.in_ok-room.was _ c.renew.ensures _ c.in_err-new.was c.from_residual-in_err-new.ensures.1

pub put_table-requires : goal.put_table-requires
put_table-requires c =
    let read = filled c.args.file.now c.fill_job.ensures.answer c.in_ok-fill_job.was c.in_ok-fill_job.ensures.job in
    table_needs _ _ _ (job_sound _ refl read) (reads_value c.renew.ensures c.in_ok-new.was) _ c.in_ok-room.ensures.fits

pub returns : goal.returns
returns c =
    let read = filled c.args.file.now c.fill_job.ensures.answer c.in_ok-fill_job.was c.in_ok-fill_job.ensures.job in
    table_written _ _ _ _ refl _ read _ _ c.room.ensures.answer c.in_ok-room.was
    _ c.renew.ensures _ c.in_ok-new.was refl c.put_table.ensures
