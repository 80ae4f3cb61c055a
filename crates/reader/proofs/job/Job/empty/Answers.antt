-- `reader::job::Job::empty` meets its contract.
use mathlib.Core.Path.{refl}
use Rattle.reader.specs.Entries.{empty_job}
use Rattle.reader.proofs.job.Job.empty.Goals as goal

pub returns : goal.returns
unfolding empty_job
returns c = refl
