-- `history::renewed::new_tasks` meets its contract.
use Rattle.reader.proofs.FillLaws.{fill_none}
use Rattle.history.proofs.TableLaws.{tasks_more}
use Rattle.history.proofs.renewed.new_tasks.Goals as goal

pub loop-j-init : goal.loop-j-init
loop-j-init c = fill_none _ _

pub loop-j-preserved : goal.loop-j-preserved
loop-j-preserved c = tasks_more _ _ _ _ _ _ c.loop-j.invariant c.new_task.ensures
