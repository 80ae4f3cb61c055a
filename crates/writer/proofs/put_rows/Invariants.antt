-- What the loop of `writer::put_rows` keeps.
use Prim.Native.Nat.{◌+◌, ◌*◌, ◌≤◌}
use lib.ListN.{get_or}
use Rattle.writer.specs.Puts.{Rows}
use Rattle.writer.proofs.put_rows.Given as goal

abbrev pub invariant-loop-x : goal.invariant-loop-x
invariant-loop-x g l =
    let e = g.T.Entry in
    record {
      rows : (none : _) → Rows (λ i. e.numbers l.form (get_or l.rows i none)) (e.width l.form) l.initial.d l.from l.x-index l.d l.at;
      most : l.at ≤ l.from + l.x-index * e.width l.form;
    }
