-- `decimal::scan::find` meets its contract.
use Rattle.decimal.proofs.ScanLaws.{finds}
use Rattle.decimal.proofs.scan.find.Goals as goal

pub returns : goal.returns
returns c = finds c.skip-from.ensures c.take.ensures
