-- Committing, as C calls it: the answer, and both buffers.
use Rattle.booking.proofs.CommitCalls.{given_both}
use Rattle.booking.proofs.seqopchi_commit.Goals as goal

pub returns : goal.returns
returns c = given_both c.commit_into.ensures c.result_number.ensures
