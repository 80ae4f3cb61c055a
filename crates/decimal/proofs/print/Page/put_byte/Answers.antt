-- `decimal::print::Page::put_byte` meets its contract.
use mathlib.Core.Path.{refl}
use Rattle.decimal.proofs.PrintLaws.{prints_byte}
use Rattle.decimal.proofs.print.Page.put_byte.Goals as goal

pub returns : goal.returns
returns c = record { prints = prints_byte _ _ _ c.requires; same = refl }
