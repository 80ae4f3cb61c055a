-- `writer::put_plan` meets its contract.
use native.Mathlib.Omega.{arith}
use Rattle.reader.specs.Entries.{no_place}
use Rattle.writer.specs.Write.{plan_numbers}
use Rattle.writer.proofs.PutLaws.{puts_then}
use Rattle.writer.proofs.put_plan.Goals as goal

pub returns : goal.returns
unfolding plan_numbers
returns c =
    let places = c.put_rows.ensures.rows no_place in
    (omega arith, rw c.clip-n.ensures at (puts_then c.put-at.ensures (puts_then c.put-at-2.ensures places.puts)))
