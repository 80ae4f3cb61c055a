-- `decimal::print::Page::put_text` meets its contract.
use mathlib.Core.Path.{refl}
use native.Mathlib.Omega.{arith}
use Rattle.decimal.proofs.PrintLaws.{prints_none, prints_at, text_more, text_whole}
use Rattle.decimal.proofs.print.Page.put_text.Goals as goal

pub loop-i-init : goal.loop-i-init
loop-i-init c = (prints_at (omega arith) (prints_none _ _), refl)

pub loop-i-preserved : goal.loop-i-preserved
loop-i-preserved c = (text_more _ _ _ _ c.loop-i.invariant.0 c.loop-i-test.true (omega arith), c.loop-i.invariant.1)

pub returns : goal.returns
returns c = record { prints = prints_at (omega arith) (text_whole _ _ _ _ c.loop-i.invariant.0 (omega arith)); same = c.loop-i.invariant.1 }
