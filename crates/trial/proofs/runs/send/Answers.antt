-- `trial::runs::send` meets its contract.
use Rattle.trial.proofs.RunLaws.{fed_sent}
use Rattle.trial.proofs.runs.send.Goals as goal

pub returns : goal.returns
returns c =
    fed_sent _ _ _ _ _ _ _ _ _ _ _ c.result_at-p.ensures c.result_at-b.ensures
    c.at.ensures c.fed_by.ensures c.at-2.ensures c.fed_by-2.ensures
