-- `writer::TaskEntry::put` meets its contract.
use native.Mathlib.Omega.{arith}
use mathlib.Core.List.{[]}
use lib.Dec.{leb}
use Rattle.reader.specs.Limits.{ready_since}
use Rattle.reader.specs.Fields.{task_fields, reaches, width_if, held_if, width, held}
use Rattle.reader.specs.JobFile.{task_width}
use Rattle.writer.specs.Write.{task_numbers}
use Rattle.writer.proofs.PutLaws.{puts_then, puts_if, puts_end}
use Rattle.writer.proofs.HeldLaws.{if_width}
use Rattle.writer.proofs.SameNumbers.{task_width_lem}
use Rattle.writer.proofs.TaskEntry.put.Goals as goal

pub put_if-then-requires : goal.put_if-then-requires
unfolding task_width task_fields reaches width width_if
put_if-then-requires c = omega (arith, c.requires)

pub put-behind-requires : goal.put-behind-requires
unfolding task_width task_fields reaches width width_if
put-behind-requires c =
    let ready = c.put_if-then.ensures in
    omega (arith, puts_end (if_width _ _ []) ready, ready.size, c.requires)

pub put_run-requires : goal.put_run-requires
unfolding task_width task_fields reaches width width_if
put_run-requires c =
    let ready = c.put_if-then.ensures in
    let deadline = c.put-behind.ensures in
    (c.args.form.nodes_most, omega (arith, puts_end (if_width _ _ []) ready, ready.size, deadline.behind, deadline.size, c.requires))

pub returns-clause-puts : goal.returns-clause-puts
unfolding task_numbers task_fields reaches held held_if
returns-clause-puts c =
    puts_then (puts_if (leb ready_since c.args.form.version) c.args.self.now.ready c.put_if-then.ensures c.put-behind.ensures)
    c.put_run.ensures.puts

pub returns-clause-most : goal.returns-clause-most
returns-clause-most c =
    omega (arith, puts_end (task_width_lem c.args.form.version c.args.form.nodes c.args.self.now) (returns-clause-puts c))
