-- `sentence::phrase::Second::mark` meets its contract.
use mathlib.Core.Logic.{inl, inr}
use Rattle.sentence.specs.Phrases.{spelled, mark}
use Rattle.sentence.proofs.phrase.Second.mark.Goals as goal

pub returns-in-Nought : goal.returns-in-Nought
unfolding spelled mark
returns-in-Nought c = elim c.in-Nought.is [ inl e ↦ rw e | inr e ↦ rw e ]
