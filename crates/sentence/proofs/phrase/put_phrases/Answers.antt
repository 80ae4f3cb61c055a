-- `sentence::phrase::put_phrases` meets its contract.
use Rattle.sentence.specs.Sentence.{phrases}
use Rattle.sentence.proofs.phrase.put_phrases.Goals as goal

pub put_placed-requires : goal.put_placed-requires
unfolding phrases
put_placed-requires c = let e = c.phrase_of.ensures in rw (e.front, e.effect, e.second) c.requires.1

pub returns : goal.returns
unfolding phrases
returns c = let e = c.phrase_of.ensures in rw (← e.front, ← e.effect, ← e.second) c.put_placed.ensures
