-- A job and logs of request (x), and wrong ways to take run times from them.
use Rattle.std.specs.Prelude.{ℕ, zero, suc, max, List, [], ◌∷◌, ◌++◌}
use Rattle.reader.specs.declared.job.Job.{Job}
use Rattle.reader.specs.Entries.{run}
use Rattle.reader.specs.Samples.{array, job_in}
use Rattle.reader.specs.Limits.{max_nodes}
use Rattle.writer.specs.Write.{pack, flat}
use Rattle.history.specs.declared.window.Timing.{Timing}
use Rattle.history.specs.Times.{kept, afresh, time_after}

-- one task, with run times 7 and 8 on nodes 0 and 1; node 2 cannot run it
abbrev pub lab : Job
lab = job_in 1 (record { ready = 0; deadline = 30; run = array max_nodes 0 (7 ∷ 8 ∷ 0 ∷ []) } ∷ []) []

-- runs of it on node 0, of which the oldest took 9 ticks and each other 5
abbrev pub runs : ℕ → Timing
runs zero = record { task = 0; node = 0; ticks = 9 }
runs (suc k) = record { task = 0; node = 0; ticks = 5 }

-- one record of it, as a log
abbrev pub once : ℕ → ℕ → List ℕ
once node ticks = pack (0 ∷ node ∷ ticks ∷ [])

-- a record of node 2, and behind it 256 that are not at fault
abbrev pub old_fault : List ℕ
old_fault = once 2 5 ++ pack (flat 256 (λ k. 0 ∷ 0 ∷ 5 ∷ []))

-- wrong ways: no record is dropped; the newest taken to stand first; the job's run time counts among the records
abbrev pub never_dropped : Job → (ℕ → Timing) → ℕ → ℕ → ℕ → ℕ
never_dropped job all c = afresh job c all

abbrev pub newest_first : Job → (ℕ → Timing) → ℕ → ℕ → ℕ → ℕ
newest_first job all c = afresh job (kept c) all

abbrev pub run_counts : Job → (ℕ → Timing) → ℕ → ℕ → ℕ → ℕ
run_counts job all c j n = max (run job j n) (time_after job all c j n)
