-- `history::renewed::new_task` meets its contract.
use native.Mathlib.Omega.{arith}
use Rattle.reader.proofs.FillLaws.{fill_none, filled_more}
use Rattle.history.proofs.TableLaws.{row_done}
use Rattle.history.proofs.renewed.new_task.Goals as goal

pub loop-n-init : goal.loop-n-init
loop-n-init c = fill_none _ _

pub loop-n-preserved : goal.loop-n-preserved
loop-n-preserved c = filled_more _ _ _ _ _ c.loop-n.invariant c.time_of.ensures

pub returns : goal.returns
returns c = row_done _ _ _ _ _ (omega arith) c.loop-n.invariant
