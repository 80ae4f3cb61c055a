-- `sentence::read_sentence` meets its contract.
use mathlib.Core.Path.{sym, ◌∙◌}
use Rattle.sentence.proofs.PhraseLaws.{told_true}
use Rattle.sentence.proofs.ReadLaws.{read_untabled, read_one, read_two, read_none}
use Rattle.sentence.proofs.read_sentence.Goals as goal

pub returns-then-not-is_tabled : goal.returns-then-not-is_tabled
returns-then-not-is_tabled c = read_untabled _ c.numbers-number.ensures (sym c.is_tabled.ensures ∙ c.if-not-is_tabled.true)

pub returns-then-says : goal.returns-then-says
returns-then-says c =
    read_one _ c.numbers-number.ensures (told_true c.is_tabled.ensures c.if-not-is_tabled.false) (sym c.says.ensures ∙ c.if-says.true)

pub returns-then-says-2 : goal.returns-then-says-2
returns-then-says-2 c =
    read_two _ c.numbers-number.ensures (told_true c.is_tabled.ensures c.if-not-is_tabled.false) (sym c.says.ensures ∙ c.if-says.false)
    (sym c.says-2.ensures ∙ c.if-says-2.true)

pub returns : goal.returns
returns c =
    read_none _ c.numbers-number.ensures (told_true c.is_tabled.ensures c.if-not-is_tabled.false) (sym c.says.ensures ∙ c.if-says.false)
    (sym c.says-2.ensures ∙ c.if-says-2.false)
