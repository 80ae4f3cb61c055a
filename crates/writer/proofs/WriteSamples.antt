-- Writing, computed: a job's fault comes before 17, and a refusal leaves the buffer as it was.
use mathlib.Core.Path.{◌≡◌, refl}
use mathlib.Core.List.{[], ◌∷◌, ◌++◌}
use lib.ListN.{replicate}
use Rattle.reader.specs.declared.refusal.Refusal.TheVariants.{Count, ShortBuffer}
use Rattle.std.specs.Prelude.{Ok, Err}
use Rattle.reader.specs.Entries.{empty_job, empty_plan}
use Rattle.reader.specs.Samples.{J, JReady}
use Rattle.writer.specs.Write.{job_bytes, write_job_fault, write_plan_fault, write_job, write_plan}
use Rattle.writer.proofs.Samples.{filed}

computed : Unit {0}
unfolding filed empty_job write_job_fault write_plan_fault write_job write_plan
computed = tt

-- no buffer is too small for a job that is at fault
pub empty_refused : write_job empty_job [] ≡ record { answer = Err (Count 4); buffer = [] }
unfolding computed
empty_refused = refl

pub after_empty_refused : write_plan empty_job empty_plan [] ≡ record { answer = Err (Count 4); buffer = [] }
unfolding computed
after_empty_refused = refl

-- a wild value: of two faults the first in file order, whatever stands behind a count beyond its array
pub wild_refused : write_job (record {
  version = 2;
  node_count = 99;
  nodes = J.nodes;
  task_count = 0;
  tasks = J.tasks;
  link_count = 0;
  links = J.links;
}) [] ≡ record { answer = Err (Count 4); buffer = [] }
unfolding computed
wild_refused = refl

-- J has 72 bytes, and 80 in version 2
pub j_short : write_job J (replicate 71 9) ≡ record { answer = Err (ShortBuffer 72); buffer = replicate 71 9 }
unfolding computed
j_short = refl

pub j_written : write_job J (replicate 73 9) ≡ record { answer = Ok tt; buffer = job_bytes J ++ (9 ∷ []) }
unfolding computed
j_written = refl

pub j_ready_written : write_job (JReady 5 7) (replicate 80 9) ≡ record { answer = Ok tt; buffer = job_bytes (JReady 5 7) }
unfolding computed
j_ready_written = refl
