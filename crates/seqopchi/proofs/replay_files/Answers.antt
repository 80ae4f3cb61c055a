-- Replay's calls: a refusal of a file, of the lost group, of the list or of the buffer, or what replay writes.
use mathlib.Core.Path.{refl}
use Rattle.reader.proofs.JobLaws.{filled, unfilled}
use Rattle.reader.proofs.Chain.{stop}
use Rattle.reader.proofs.NumberLaws.{is_none, is_value, is_fault}
use Rattle.writer.proofs.WriteLaws.{hands_on}
use Rattle.seqopchi.specs.Files.{replay_fault, replay_files}
use Rattle.seqopchi.proofs.ReadLaws.{hands, roomy, job_sound, job_stops, plan_stops, both_done}
use Rattle.seqopchi.proofs.ReadLaws.{both_sound, bad_group, bad_list, bad_room, times_within, replayed}
use Rattle.seqopchi.proofs.replay_files.Goals as goal

pub returns-in_err-fill_job : goal.returns-in_err-fill_job
unfolding replay_files replay_fault
returns-in_err-fill_job c =
    hands _ _ _ c.from_residual.ensures.1 (stop _ (job_stops c.args.job.now refl _ (unfilled c.args.job.now c.fill_job.ensures.answer c.in_err-fill_job.was)))

pub read_plan-requires : goal.read_plan-requires
read_plan-requires c =
    let read = filled c.args.job.now c.fill_job.ensures.answer c.in_ok-fill_job.was c.in_ok-fill_job.ensures.job in
    job_sound c.args.job.now refl read

pub returns-in_err-places : goal.returns-in_err-places
unfolding replay_files replay_fault
returns-in_err-places c =
    let read = filled c.args.job.now c.fill_job.ensures.answer c.in_ok-fill_job.was c.in_ok-fill_job.ensures.job in
    hands _ _ _ c.from_residual-in_err-places.ensures.1 (stop _ (plan_stops c.args.job.now refl read _ c.read_plan.ensures c.in_err-places.was))

pub lost_group-requires : goal.lost_group-requires
lost_group-requires c =
    let read = filled c.args.job.now c.fill_job.ensures.answer c.in_ok-fill_job.was c.in_ok-fill_job.ensures.job in
    (both_sound _ _ _ _ (both_done c.args.job.now refl read _ c.read_plan.ensures c.in_ok-places.was)).0.nodes_most

pub returns-in_err-lost_group : goal.returns-in_err-lost_group
unfolding replay_files
returns-in_err-lost_group c =
    let read = filled c.args.job.now c.fill_job.ensures.answer c.in_ok-fill_job.was c.in_ok-fill_job.ensures.job in
    hands _ _ _ c.from_residual-in_err-lost_group.ensures.1
    (bad_group _ _ _ _ (both_done c.args.job.now refl read _ c.read_plan.ensures c.in_ok-places.was) _ _ _
    (is_fault _ _ _ c.lost_group.ensures c.in_err-lost_group.was))

pub read_list-requires : goal.read_list-requires
read_list-requires c =
    let read = filled c.args.job.now c.fill_job.ensures.answer c.in_ok-fill_job.was c.in_ok-fill_job.ensures.job in
    both_sound _ _ _ _ (both_done c.args.job.now refl read _ c.read_plan.ensures c.in_ok-places.was)

pub returns-in_err-times : goal.returns-in_err-times
returns-in_err-times c =
    let read = filled c.args.job.now c.fill_job.ensures.answer c.in_ok-fill_job.was c.in_ok-fill_job.ensures.job in
    let there = is_none _ _ _ c.lost_group.ensures c.in_ok-lost_group.was in
    hands_on _ c.from_residual-in_err-times.ensures.1
    (bad_list _ _ _ _ (both_done c.args.job.now refl read _ c.read_plan.ensures c.in_ok-places.was) _ _ _ there
    (is_fault _ _ _ c.read_list.ensures c.in_err-times.was))

pub returns-in_err-room : goal.returns-in_err-room
unfolding replay_files
returns-in_err-room c =
    let read = filled c.args.job.now c.fill_job.ensures.answer c.in_ok-fill_job.was c.in_ok-fill_job.ensures.job in
    let files = both_done c.args.job.now refl read _ c.read_plan.ensures c.in_ok-places.was in
    let there = is_none _ _ _ c.lost_group.ensures c.in_ok-lost_group.was in
    let list = c.read_list.ensures in
    let q = c.in_ok-times.was in
    hands _ _ _ c.from_residual-in_err-room.ensures.1
    (bad_room _ _ _ _ files _ _ _ there (is_none _ _ _ list q) _ (is_value _ _ _ list q) (is_fault _ _ _ c.room.ensures.answer c.in_err-room.was))

pub replay_into-requires : goal.replay_into-requires
replay_into-requires c =
    let read = filled c.args.job.now c.fill_job.ensures.answer c.in_ok-fill_job.was c.in_ok-fill_job.ensures.job in
    let files = both_done c.args.job.now refl read _ c.read_plan.ensures c.in_ok-places.was in
    let there = is_none _ _ _ c.lost_group.ensures c.in_ok-lost_group.was in
    let list = c.read_list.ensures in
    let q = c.in_ok-times.was in
    let both = both_sound _ _ _ _ files in
    let within = times_within _ _ _ _ files _ _ c.args.out.now there (is_none _ _ _ list q) _ (is_value _ _ _ list q) in
    (both.0, both.1, rw c.as_ref.ensures.value within, roomy _ _ (is_none _ _ _ c.room.ensures.answer c.in_ok-room.was))

pub returns : goal.returns
returns c =
    let read = filled c.args.job.now c.fill_job.ensures.answer c.in_ok-fill_job.was c.in_ok-fill_job.ensures.job in
    let files = both_done c.args.job.now refl read _ c.read_plan.ensures c.in_ok-places.was in
    let there = is_none _ _ _ c.lost_group.ensures c.in_ok-lost_group.was in
    let list = c.read_list.ensures in
    let q = c.in_ok-times.was in
    replayed _ _ _ _ files _ _ _ there (is_none _ _ _ list q) _ (is_value _ _ _ list q) (is_none _ _ _ c.room.ensures.answer c.in_ok-room.was) _
    (rw c.as_ref.ensures.value at c.replay_into.ensures)
