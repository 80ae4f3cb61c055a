-- `text::put_rows` meets its contract.
use native.Mathlib.Omega.{arith}
use Rattle.writer.specs.Write.{flat}
use Rattle.decimal.proofs.PrintLaws.{grows_none, grows_more}
use Rattle.text.proofs.put_rows.Goals as goal

pub loop-j-init : goal.loop-j-init
unfolding flat
loop-j-init c = (omega arith, grows_none _)

pub loop-j-preserved : goal.loop-j-preserved
loop-j-preserved c = (omega arith, grows_more _ _ c.loop-j.invariant.1 c.put_row.ensures.1)
