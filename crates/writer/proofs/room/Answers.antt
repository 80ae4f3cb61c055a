-- `writer::room` meets its contract.
use borrow.Author.Tests.{lt-leb, le-leb}
use Rattle.reader.specs.First.{unless}
use Rattle.writer.specs.Write.{room_fault}
use Rattle.writer.proofs.room.Goals as goal

pub returns-then-out-n-clause-answer : goal.returns-then-out-n-clause-answer
unfolding room_fault unless
returns-then-out-n-clause-answer c = let short = c.if-out-n.true in rw lt-leb

pub returns-clause-answer : goal.returns-clause-answer
unfolding room_fault unless
returns-clause-answer c = let enough = c.if-out-n.false in rw le-leb
