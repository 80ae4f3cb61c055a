-- `replay::write::write_outcomes` meets its contract.
use Rattle.replay.specs.Outcomes.{no_outcome}
use Rattle.replay.proofs.WriteLaws.{outcomes_put}
use Rattle.replay.proofs.write.write_outcomes.Goals as goal

pub returns : goal.returns
returns c = outcomes_put _ _ (c.put_rows.ensures.rows no_outcome)
