-- `sentence::numbers` meets its contract.
use Rattle.sentence.proofs.ReadLaws.{shown_by}
use Rattle.sentence.proofs.numbers.Goals as goal

pub returns : goal.returns
returns c = shown_by c.find-number.ensures c.find-first.ensures c.find-second.ensures
