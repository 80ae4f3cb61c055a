-- `sentence::read_into` meets its contract.
use mathlib.Core.Path.{sym, ◌∙◌}
use native.Mathlib.Omega.{arith}
use Rattle.sentence.proofs.ReadLaws.{done_handed}
use Rattle.sentence.proofs.read_into.Goals as goal

pub returns : goal.returns
returns c = done_handed _ _ _ (omega arith) (sym c.in_ok-told.was ∙ c.read_sentence.ensures)
