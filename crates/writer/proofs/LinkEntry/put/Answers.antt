-- `writer::LinkEntry::put` meets its contract.
use Rattle.writer.specs.Write.{link_numbers}
use Rattle.writer.proofs.PutLaws.{puts_then}
use Rattle.writer.proofs.LinkEntry.put.Goals as goal

pub returns-clause-puts : goal.returns-clause-puts
unfolding link_numbers
returns-clause-puts c = puts_then c.put-to.ensures (puts_then c.put-delay.ensures c.put.ensures)
