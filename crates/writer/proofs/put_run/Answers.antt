-- `writer::put_run` meets its contract.
use Rattle.writer.proofs.put_run.Goals as goal

pub returns : goal.returns
returns c = c.put_rows.ensures.rows 0
