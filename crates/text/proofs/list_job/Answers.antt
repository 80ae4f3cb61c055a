-- `text::list_job` meets its contract.
use native.Mathlib.Omega.{arith}
use Rattle.reader.proofs.NumberLaws.{is_none, is_fault}
use Rattle.decimal.proofs.PrintLaws.{grows_same}
use Rattle.text.proofs.ListingLaws.{fault_listed, job_reads, attempt_listed}
use Rattle.text.proofs.list_job.Goals as goal
use Rattle.text.proofs.list_job.Goals.{in-Ok, in-Err}

pub put_planned-requires : goal.put_planned-requires
put_planned-requires c = (job_reads _ (is_none _ _ _ c.fill_job.ensures.answer c.in-Ok.is) c.in-Ok.ensures.job, omega arith)

pub returns : goal.returns
returns c = elim c.match-fill_job.branch [
  | in-Ok w ↦
      let fine = is_none _ _ _ c.fill_job.ensures.answer w.in-Ok.is in
      rw w.page-is (w.put_planned.ensures.0, (grows_same (attempt_listed _ fine w.in-Ok.ensures.job) w.put_planned.ensures.1).prints)
  | in-Err w ↦
      let fault = is_fault _ _ _ c.fill_job.ensures.answer w.in-Err.is in
      rw w.page-is (w.put_refusal.ensures.0, (grows_same (fault_listed _ fault) w.put_refusal.ensures.1).prints)
]
