-- `replay::write::OutcomeEntry::put` meets its contract.
use Rattle.writer.proofs.PutLaws.{puts_then}
use Rattle.replay.proofs.write.OutcomeEntry.put.Goals as goal

pub returns-clause-puts : goal.returns-clause-puts
returns-clause-puts c =
    puts_then (rw c.from.ensures at c.put-backup.ensures)
    (puts_then (rw c.from-2.ensures at c.put-finish.ensures) (rw c.unwrap_or.ensures at c.put.ensures))
