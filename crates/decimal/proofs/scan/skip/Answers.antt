-- `decimal::scan::skip` meets its contract.
use Rattle.decimal.proofs.ScanLaws.{skip_found, skip_none}
use Rattle.decimal.proofs.scan.skip.Goals as goal

pub returns-in-Some : goal.returns-in-Some
returns-in-Some c = skip_found _ _ c.requires _ c.in-Some.ensures

pub returns-in-None : goal.returns-in-None
returns-in-None c = skip_none _ _ c.requires c.in-None.ensures
