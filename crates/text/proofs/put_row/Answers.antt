-- `text::put_row` meets its contract.
use native.Mathlib.Omega.{arith}
use Rattle.writer.specs.Write.{place_numbers}
use Rattle.decimal.proofs.PrintLaws.{grows_then}
use Rattle.text.specs.Text.{line, row}
use Rattle.text.proofs.put_row.Goals as goal

pub returns : goal.returns
unfolding row line place_numbers
returns c = (
  omega arith,
  grows_then c.put_field.ensures.1
      (grows_then c.put_field-2.ensures.1 (grows_then c.put_field-3.ensures.1 (grows_then c.put_field-4.ensures.1 c.put_field-5.ensures.1))),
)
