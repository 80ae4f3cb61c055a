-- `sentence::phrase::phrase_of` meets its contract: part by part the code's table and the tables compute to the same list.
use mathlib.Core.List.{[]}
use mathlib.Core.Path.{refl}
use Rattle.sentence.specs.declared.phrase.Phrase.{Phrase}
use Rattle.sentence.specs.declared.phrase.Second.TheVariants.{Another}
use Rattle.sentence.specs.Phrases.{spelled, rows}
use Rattle.sentence.specs.Sentence.{front}
use Rattle.sentence.proofs.PhraseLaws.{row_part, phrase_part}
use Rattle.sentence.proofs.phrase.phrase_of.Goals as goal

pub returns-clause-front : goal.returns-clause-front
unfolding spelled rows front
returns-clause-front c = rw (phrase_part (λ (x : Phrase). x.front.now) [] _ c.requires _ _ refl, row_part front [] _ c.requires)

pub returns-clause-effect : goal.returns-clause-effect
unfolding spelled rows
returns-clause-effect c = rw (phrase_part (λ (x : Phrase). x.effect.now) [] _ c.requires _ _ refl, row_part (λ r. spelled r.effect) [] _ c.requires)

pub returns-clause-second : goal.returns-clause-second
unfolding rows
returns-clause-second c = rw (phrase_part (λ (x : Phrase). x.second) Another _ c.requires _ _ refl, row_part (λ r. r.second) Another _ c.requires)
