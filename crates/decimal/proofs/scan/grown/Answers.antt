-- `decimal::scan::grown` meets its contract.
use native.Mathlib.Omega.{arith}
use Rattle.decimal.proofs.ScanLaws.{digit_least}
use Rattle.decimal.proofs.scan.grown.Goals as goal

pub overflow_sub-d : goal.overflow_sub-d
overflow_sub-d c = omega (arith, digit_least _ c.requires)
