-- `sentence::phrase::put_placed` meets its contract.
use mathlib.Core.Path.{sym, ap, ◌∙◌}
use lib.ListN.{length}
use native.Mathlib.Omega.{arith}
use Rattle.decimal.proofs.PrintLaws.{grows_then, grows_same}
use Rattle.sentence.specs.Sentence.{placed}
use Rattle.sentence.proofs.PrintedLaws.{around_quiet, around_told, first_room, second_room}
use Rattle.sentence.proofs.phrase.put_placed.Goals as goal

pub put_text-requires : goal.put_text-requires
unfolding placed
put_text-requires c = omega (arith, first_room _ _ _ _ _ _ c.requires)

pub put_decimal-requires : goal.put_decimal-requires
unfolding placed
put_decimal-requires c = omega (arith, first_room _ _ _ _ _ _ c.requires)

pub put_text-requires-2 : goal.put_text-requires-2
unfolding placed
put_text-requires-2 c = omega (arith, first_room _ _ _ _ _ _ c.requires)

pub returns-then-is_unsaid : goal.returns-then-is_unsaid
unfolding placed
returns-then-is_unsaid c =
    grows_same (sym (around_quiet _ _ _ _ _ (sym c.is_unsaid.ensures ∙ c.if-is_unsaid.true)))
    (grows_then c.put_text.ensures (grows_then c.put_decimal.ensures c.put_text-2.ensures))

pub put_text-requires-3 : goal.put_text-requires-3
unfolding placed
put_text-requires-3 c =
    let room = second_room _ _ _ _ _ _ (sym c.is_unsaid.ensures ∙ c.if-is_unsaid.false) c.requires in
    omega (arith, ap length c.mark.ensures)

pub put_decimal-requires-2 : goal.put_decimal-requires-2
unfolding placed
put_decimal-requires-2 c =
    let room = second_room _ _ _ _ _ _ (sym c.is_unsaid.ensures ∙ c.if-is_unsaid.false) c.requires in
    omega (arith, ap length c.mark.ensures)

pub returns : goal.returns
unfolding placed
returns c =
    let shown = grows_then (grows_same c.mark.ensures c.put_text-3.ensures) c.put_decimal-2.ensures in
    grows_same (sym (around_told _ _ _ _ _ (sym c.is_unsaid.ensures ∙ c.if-is_unsaid.false)))
    (grows_then c.put_text.ensures (grows_then c.put_decimal.ensures (grows_then c.put_text-2.ensures shown)))
