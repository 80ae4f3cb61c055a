-- `writer::write_job` meets its contract.
use mathlib.Core.Path.{refl, ◌∙◌}
use Rattle.reader.proofs.JobLaws.{filled, unfilled}
use Rattle.writer.proofs.WriteLaws.{hands_on, job_refused, job_sent}
use Rattle.writer.proofs.write_job.Goals as goal

pub returns-in_err-fill_job : goal.returns-in_err-fill_job
returns-in_err-fill_job c =
    hands_on _ c.from_residual.ensures.1 (job_refused _ _ c.put_job-len.ensures.1 refl (unfilled _ c.fill_job.ensures.answer c.in_err-fill_job.was))

pub returns : goal.returns
returns c =
    let read = filled _ c.fill_job.ensures.answer c.in_ok-fill_job.was c.in_ok-fill_job.ensures.job in
    job_sent _ _ c.put_job-len.ensures.1 refl read ∙ c.send.ensures
