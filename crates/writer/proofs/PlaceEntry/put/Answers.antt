-- `writer::PlaceEntry::put` meets its contract.
use Rattle.writer.specs.Write.{place_numbers}
use Rattle.writer.proofs.PutLaws.{puts_then}
use Rattle.writer.proofs.PlaceEntry.put.Goals as goal

pub returns-clause-puts : goal.returns-clause-puts
unfolding place_numbers
returns-clause-puts c = puts_then c.put-start.ensures (puts_then c.put-backup.ensures (puts_then c.put-last.ensures c.put.ensures))
