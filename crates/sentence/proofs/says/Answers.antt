-- `sentence::says` meets its contract.
use mathlib.Core.Path.{◌∙◌, ap}
use Rattle.sentence.specs.Reading.{same}
use Rattle.sentence.proofs.CompareLaws.{pointwise_same}
use Rattle.sentence.proofs.PrintedLaws.{printed_front}
use Rattle.sentence.proofs.says.Goals as goal

pub returns : goal.returns
returns c = c.eq.ensures ∙ pointwise_same c.args.text.now _ ∙ ap (same _) (printed_front c.put_sentence-length.ensures.1)
