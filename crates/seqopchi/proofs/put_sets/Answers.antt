-- `seqopchi::put_sets` meets its contract.
use Prim.Native.Nat.{◌+◌, ◌*◌}
use mathlib.Core.Path.{◌≡◌, subst}
use native.Mathlib.Omega.{arith}
use Rattle.writer.specs.Puts.{Rows}
use Rattle.writer.proofs.PutLaws.{rows_none, rows_more, puts_one}
use Rattle.seqopchi.proofs.put_sets.Goals as goal

pub loop-j-init : goal.loop-j-init
loop-j-init c = (omega arith, rows_none _ _)

pub loop-j-preserved : goal.loop-j-preserved
loop-j-preserved c =
    let so_far = c.loop-j.invariant.1 in
    let next : 4 * c.loop-j.j + 4 ≡ 4 * (c.loop-j.j + 1) = omega arith in
    let one = puts_one _ _ _ _ (omega (arith, so_far.puts.size)) c.put_number.ensures in
    (omega arith, subst (Rows _ 4 _ 0 _ _) next (rows_more so_far one (omega arith)))
