-- `history::renewed::with_times` meets its contract.
use Rattle.history.proofs.TableLaws.{job_renewed}
use Rattle.history.proofs.renewed.with_times.Goals as goal

pub returns : goal.returns
returns c = job_renewed _ _ _ c.new_tasks-tasks.ensures
