-- `trial::words::stays` meets its contract.
use Rattle.trial.proofs.WordLaws.{or_is}
use Rattle.trial.proofs.words.stays.Goals as goal

pub returns : goal.returns
returns c = or_is _ _
