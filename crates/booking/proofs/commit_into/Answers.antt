-- A commit into two buffers: refused, or what writing both gives.
use Rattle.booking.proofs.CommitCalls.{into_refused, both_sound, into_buffers}
use Rattle.booking.proofs.commit_into.Goals as goal

pub returns-in_err-places : goal.returns-in_err-places
returns-in_err-places c = into_refused _ _ _ _ c.commit_files_to.ensures.answer c.in_err-places.was _ c.from_residual.ensures.1 _ _

pub write_both-requires : goal.write_both-requires
write_both-requires c = both_sound _ _ _ _ c.commit_files_to.ensures.answer c.in_ok-places.was

pub returns : goal.returns
returns c = into_buffers _ _ _ _ c.commit_files_to.ensures.answer c.in_ok-places.was _ _ c.write_both.ensures
