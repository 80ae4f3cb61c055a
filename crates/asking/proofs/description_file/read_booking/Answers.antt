-- A booking: a description, its place, and nothing behind it.
use Rattle.reader.proofs.Chain.{stopped, broken, reads_some}
use Rattle.asking.specs.Sizes.{shaped}
use Rattle.asking.proofs.NewFileLaws.{description_read, booking_bad, bad_place, booking_tail, booking_done}
use Rattle.asking.proofs.description_file.read_booking.Goals as goal

pub returns-in_err-description : goal.returns-in_err-description
returns-in_err-description c =
    λ job. stopped _ c.from_residual.ensures.1
    (booking_bad _ (shaped job c.args.shape) (reads_some (c.read_description.ensures.reads job) c.in_err-description.was))

pub returns-in_err-place : goal.returns-in_err-place
returns-in_err-place c =
    λ job. let read = description_read (c.read_description.ensures.reads job) c.in_ok-description.was in
    stopped _ c.from_residual-in_err-place.ensures.1 (bad_place read (reads_some c.read_place.ensures c.in_err-place.was))

pub returns-then-end-file : goal.returns-then-end-file
returns-then-end-file c =
    λ job. let read = description_read (c.read_description.ensures.reads job) c.in_ok-description.was in
    broken (booking_tail read c.read_place.ensures c.in_ok-place.was c.if-end-file.true)

pub returns : goal.returns
returns c =
    λ job. let read = description_read (c.read_description.ensures.reads job) c.in_ok-description.was in
    booking_done read c.read_place.ensures c.in_ok-place.was c.if-end-file.false
