-- `text::put_plan` meets its contract.
use native.Mathlib.Omega.{arith}
use lib.Seq.{length-take-le}
use Rattle.decimal.proofs.PrintLaws.{grows_then}
use Rattle.text.specs.Text.{header, plan_text}
use Rattle.text.proofs.ListingLaws.{rows_taken}
use Rattle.text.proofs.put_plan.Goals as goal

pub returns : goal.returns
unfolding plan_text header
returns c =
    let plan = c.args.plan in
    let rows = rw (rows_taken plan.task_count plan.places (omega arith)) at c.put_rows.ensures.1 in
    let many = length-take-le plan.task_count plan.places (omega arith) in
    (omega arith, grows_then c.put_text.ensures rows)
