-- Committing on files into a lent job: a refusal of a step, or the answer of the last one.
use Rattle.reader.proofs.Chain.{reads_value}
use Rattle.asking.specs.DescriptionFile.{booking_fault}
use Rattle.asking.proofs.ShapeLaws.{sizes_of, booking_after}
use Rattle.booking.proofs.AskCalls.{paired, refused_pair, held_sizes, files_stop, read_stops, full_stops, ready, commit_stops, committing, commit_done}
use Rattle.booking.proofs.commit_files_to.Goals as goal

pub returns-in_err-plan-clause-answer : goal.returns-in_err-plan-clause-answer
returns-in_err-plan-clause-answer c =
    commit_stops _ _ _ (files_stop _ _ c.passed_files.ensures booking_fault _ (refused_pair _ c.in_err-plan.was)) _ c.from_residual.ensures.1 _

pub read_booking-requires : goal.read_booking-requires
read_booking-requires c = sizes_of _ c.of-shape.ensures (held_sizes _ _ c.passed_files.ensures (paired _ c.in_ok-plan.was))

pub returns-in_err-description-clause-answer : goal.returns-in_err-description-clause-answer
returns-in_err-description-clause-answer c =
    let read = booking_after _ c.of-shape.ensures _ c.read_booking.ensures in
    commit_stops _ _ _ (read_stops _ _ c.passed_files.ensures booking_fault _ (paired _ c.in_ok-plan.was) read c.in_err-description.was) _
    c.from_residual-in_err-description.ensures.1 _

pub returns-in_err-full-clause-answer : goal.returns-in_err-full-clause-answer
returns-in_err-full-clause-answer c =
    let read = booking_after _ c.of-shape.ensures _ c.read_booking.ensures in
    let bad = full_stops _ _ c.passed_files.ensures booking_fault _ (paired _ c.in_ok-plan.was) read c.in_ok-description.was
    (reads_value read c.in_ok-description.was).0 c.full.ensures c.in_err-full.was in
    commit_stops _ _ _ bad _ c.from_residual-in_err-full.ensures.1 _

pub commit_to-requires : goal.commit_to-requires
commit_to-requires c =
    let read = booking_after _ c.of-shape.ensures _ c.read_booking.ensures in
    let value = reads_value read c.in_ok-description.was in
    let all = ready _ _ c.passed_files.ensures booking_fault _ (paired _ c.in_ok-plan.was) read c.in_ok-description.was value.0
    c.full.ensures c.in_ok-full.was in
    committing _ _ _ all value.1

pub returns-clause-answer : goal.returns-clause-answer
returns-clause-answer c =
    let read = booking_after _ c.of-shape.ensures _ c.read_booking.ensures in
    let value = reads_value read c.in_ok-description.was in
    let all = ready _ _ c.passed_files.ensures booking_fault _ (paired _ c.in_ok-plan.was) read c.in_ok-description.was value.0
    c.full.ensures c.in_ok-full.was in
    commit_done _ _ _ all value.1 c.commit_to.ensures.answer
