-- `writer::put_rows` meets its contract.
use Prim.Native.Nat.{◌<◌}
use lib.Seq.{length-take-le}
use mathlib.Core.Path.{◌≡◌}
use native.Mathlib.Omega.{arith}
use Rattle.writer.proofs.PutLaws.{rows_none, rows_next, row_room, item_is}
use Rattle.writer.proofs.put_rows.Goals as goal

pub loop-x-init : goal.loop-x-init
loop-x-init g c = record { rows = λ none. rows_none _ _; most = omega arith }

pub put-at-requires : goal.put-at-requires
put-at-requires g c =
    let below : c.loop-x.x-index < c.args.count = omega (arith, length-take-le c.args.count c.args.rows.now (omega arith)) in
    row_room _ (c.loop-x.invariant.rows c.x-item.result) below c.requires.1

pub loop-x-preserved : goal.loop-x-preserved
loop-x-preserved g c =
    let put = c.put-at.ensures in
    let below : c.loop-x.x-index < c.args.count = omega (arith, length-take-le c.args.count c.args.rows.now (omega arith)) in
    let same = item_is _ _ c.args.rows.now _ c.loop-x-test.true c.x-item.is below in
    record {
      rows = λ none. rows_next (g.T.Entry.numbers c.args.form) _ none _ (c.loop-x.invariant.rows none) (same none) put.puts put.most;
      most = omega (arith, put.most);
    }

pub returns : goal.returns
returns g c =
    let e : c.loop-x.x-index ≡ c.args.count = omega (arith, length-take-le c.args.count c.args.rows.now (omega arith)) in
    record { rows = λ none. rw e at (c.loop-x.invariant.rows none); most = rw e at c.loop-x.invariant.most }
