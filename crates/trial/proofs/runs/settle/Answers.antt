-- `trial::runs::settle` meets its contract.
use Rattle.trial.proofs.RunLaws.{settled_is}
use Rattle.trial.proofs.runs.settle.Goals as goal

pub returns : goal.returns
returns c =
    settled_is _ _ _ _ _ _ _ _ _ _ _ _ _ _ _ _ c.at-primary.ensures c.at-backup.ensures c.pick-may.ensures
    c.spared.ensures c.spared-2.ensures c.pick-could.ensures c.without-called.ensures
    c.spared-3.ensures c.spared-4.ensures
