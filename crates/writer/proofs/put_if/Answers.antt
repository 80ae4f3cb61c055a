-- `writer::put_if` meets its contract.
use Rattle.reader.specs.Fields.{width_if}
use Rattle.writer.proofs.PutLaws.{puts_has, puts_lacks}
use Rattle.writer.proofs.put_if.Goals as goal

pub put-requires : goal.put-requires
unfolding width_if
put-requires c = rw c.if-has.true at c.requires

pub returns-then-has : goal.returns-then-has
returns-then-has c = puts_has _ c.if-has.true c.put.ensures

pub returns-else-has : goal.returns-else-has
returns-else-has c = puts_lacks _ _ _ _ c.if-has.false
