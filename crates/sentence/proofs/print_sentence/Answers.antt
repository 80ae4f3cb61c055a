-- `sentence::print_sentence` meets its contract.
use mathlib.Core.Path.{sym, ◌∙◌}
use Rattle.sentence.proofs.PhraseLaws.{told_true}
use Rattle.sentence.proofs.PrintedLaws.{printed_front, print_untabled, print_tabled}
use Rattle.sentence.proofs.print_sentence.Goals as goal

pub returns-then-not-is_tabled : goal.returns-then-not-is_tabled
returns-then-not-is_tabled c = print_untabled _ _ (sym c.is_tabled.ensures ∙ c.if-not-is_tabled.true)

pub returns : goal.returns
returns c =
    sym (print_tabled _ _ (told_true c.is_tabled.ensures c.if-not-is_tabled.false))
    ∙ (rw (printed_front c.put_sentence-need.ensures.1) at c.send.ensures)
