-- Demand 3 at the level of bytes: what replay's calls show of two files, a loss, a list of actual times or none, and a buffer.
use Rattle.std.specs.Prelude.{ℕ, List}
use Rattle.std.proofs.Math.Option.{Option}
use Rattle.reader.specs.JobFile.{job_at}
use Rattle.rules.specs.declared.Loss.{Loss}
use Rattle.rules.specs.Survival.{Survives}
use Rattle.replay.specs.Survival.{BytesTell, BytesSurvive}
use Rattle.seqopchi.specs.Files.{rows_in, run_in, replay_files}

pub record FilesSurvive (job plan : List ℕ) (loss : Loss) (list : Option (List ℕ)) (out : List ℕ) : Type 0 where
  -- 'it writes for every task 2 for exactly one of primary and backup, and a finish from 1 to the deadline'
  pub bytes : BytesSurvive (job_at job) (replay_files job plan loss list out).buffer
  -- what it writes are the states and finishes of the run
  pub told : BytesTell (job_at job) (rows_in job plan list) (run_in job plan loss list) (replay_files job plan loss list out).buffer
  -- in which no two started copies hold one node at one tick, and no backup that is called on lacks an input
  pub run : Survives (job_at job) (rows_in job plan list) loss (run_in job plan loss list)
