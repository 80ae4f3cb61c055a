-- A job and a plan of it into two buffers: the job or the plan has no room, or both are written.
use Rattle.reader.proofs.NumberLaws.{is_none, is_fault}
use Rattle.booking.proofs.CommitCalls.{no_job_room, no_plan_room, both_written}
use Rattle.booking.proofs.write_both.Goals as goal

pub returns-in_err-room : goal.returns-in_err-room
returns-in_err-room c =
    no_job_room _ _ c.requires _ _ c.put_job-len.ensures.1 (is_fault _ _ _ c.room.ensures.answer c.in_err-room.was) _ c.from_residual.ensures.1

pub returns-in_err-room-2 : goal.returns-in_err-room-2
returns-in_err-room-2 c =
    no_plan_room _ _ c.requires _ _ c.put_job-len.ensures.1 (is_none _ _ _ c.room.ensures.answer c.in_ok-room.was)
    (is_fault _ _ _ c.room-2.ensures.answer c.in_err-room-2.was) _ c.from_residual-in_err-room-2.ensures.1

pub returns : goal.returns
returns c =
    rw c.copy_from_slice.ensures.after
    (both_written _ _ c.requires _ _ c.put_job-len.ensures.1 (is_none _ _ _ c.room.ensures.answer c.in_ok-room.was)
    (is_none _ _ _ c.room-2.ensures.answer c.in_ok-room-2.was) c.put_plan.ensures.1)
