-- `writer::NodeEntry::put` meets its contract.
use native.Mathlib.Omega.{arith}
use mathlib.Core.List.{[]}
use lib.Dec.{leb}
use Rattle.reader.specs.Limits.{send_since}
use Rattle.reader.specs.Fields.{node_fields, reaches, width_if, held_if, width, held}
use Rattle.reader.specs.JobFile.{node_width}
use Rattle.writer.specs.Write.{node_numbers}
use Rattle.writer.proofs.PutLaws.{puts_then, puts_if, puts_end}
use Rattle.writer.proofs.HeldLaws.{if_width}
use Rattle.writer.proofs.SameNumbers.{node_width_lem}
use Rattle.writer.proofs.NodeEntry.put.Goals as goal

pub put-then-requires : goal.put-then-requires
unfolding node_width node_fields reaches width width_if
put-then-requires c = omega (arith, c.requires)

pub put_if-last-requires : goal.put_if-last-requires
unfolding node_width node_fields reaches width width_if
put_if-last-requires c =
    let detect = c.put-then.ensures in
    omega (arith, detect.behind, detect.size, c.requires)

pub put_if-requires : goal.put_if-requires
unfolding node_width node_fields reaches width width_if
put_if-requires c =
    let send = c.put_if-last.ensures in
    let detect = c.put-then.ensures in
    omega (arith, puts_end (if_width _ _ []) send, send.size, detect.behind, detect.size, c.requires)

pub returns-clause-puts : goal.returns-clause-puts
unfolding node_numbers node_fields reaches held held_if
returns-clause-puts c =
    puts_then c.put-then.ensures
    (puts_if (leb send_since c.args.version) c.args.self.now.send c.put_if-last.ensures c.put_if.ensures)

pub returns-clause-most : goal.returns-clause-most
returns-clause-most c = omega (arith, puts_end (node_width_lem c.args.version c.args.self.now) (returns-clause-puts c))
