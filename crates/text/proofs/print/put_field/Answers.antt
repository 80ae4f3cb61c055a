-- `text::print::put_field` meets its contract.
use native.Mathlib.Omega.{arith}
use Rattle.text.specs.Text.{field}
use Rattle.decimal.proofs.DecimalLaws.{digits_most}
use Rattle.decimal.proofs.PrintLaws.{grows_then}
use Rattle.text.proofs.print.put_field.Goals as goal

pub returns : goal.returns
unfolding field
returns c =
    let most = digits_most c.args.v (omega arith) in
    (omega (arith, c.put_byte.ensures.prints.behind), grows_then c.put_decimal.ensures c.put_byte.ensures)
