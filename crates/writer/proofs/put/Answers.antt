-- `writer::put` meets its contract.
use borrow.Author.Rules.{rules}
use Rattle.writer.proofs.PutLaws.{puts_one}
use Rattle.writer.proofs.put.Goals as goal

pub returns : goal.returns
returns c = puts_one _ _ _ _ (search rules) c.put_number.ensures
