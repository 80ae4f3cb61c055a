-- `text::put_refusal` meets its contract.
use mathlib.Core.Path.{ap}
use native.Mathlib.Omega.{arith}
use Rattle.decimal.proofs.PrintLaws.{grows_then, grows_same}
use Rattle.text.specs.Text.{line, refused_word, told_text}
use Rattle.text.proofs.put_refusal.Goals as goal

pub returns : goal.returns
unfolding told_text refused_word line
returns c =
    let numbers = grows_then c.put_field.ensures.1 (grows_then c.put_field-2.ensures.1 c.put_field-3.ensures.1) in
    (omega arith, grows_same (ap told_text c.from-told.ensures) (grows_then c.put_text.ensures numbers))
