-- `sentence::put_sentence` meets its contract.
use native.Mathlib.Omega.{arith}
use Rattle.sentence.specs.Phrases.{spelled}
use Rattle.sentence.specs.Sentence.{body, sentence}
use Rattle.decimal.proofs.PrintLaws.{grows_then}
use Rattle.sentence.proofs.PrintedLaws.{sentence_room}
use Rattle.sentence.proofs.put_sentence.Goals as goal

pub returns : goal.returns
unfolding sentence body spelled
returns c =
    let room = sentence_room _ c.requires in
    let printed = grows_then c.put_text.ensures (grows_then c.put_decimal.ensures c.put_phrases.ensures) in
    (omega arith, (grows_then printed c.put_text-2.ensures).prints)
