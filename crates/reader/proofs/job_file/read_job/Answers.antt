-- `reader::job_file::read_job` meets its contract.
use Rattle.reader.specs.JobFile.{read_job}
use Rattle.reader.proofs.NumberLaws.{is_none, is_fault}
use Rattle.reader.proofs.Chain.{handed, given}
use Rattle.reader.proofs.job_file.read_job.Goals as goal

pub returns-in_err-fill_job : goal.returns-in_err-fill_job
unfolding read_job
returns-in_err-fill_job c = handed _ _ c.from_residual.ensures.1 (is_fault _ _ _ c.fill_job.ensures.answer c.in_err-fill_job.was)

pub returns : goal.returns
unfolding read_job
returns c = given _ (is_none _ _ _ c.fill_job.ensures.answer c.in_ok-fill_job.was) c.in_ok-fill_job.ensures.job
