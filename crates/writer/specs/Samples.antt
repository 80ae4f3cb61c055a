-- Samples of document 01, and of requests (ii), (iv) and (vi), that reading and writing decide.
use Rattle.std.specs.Prelude.{ℕ, ◌≡◌, List, [], ◌∷◌, ◌++◌, replicate, Result, Ok, Err}
use Rattle.reader.specs.declared.refusal.Refusal.{Refusal}
use Rattle.reader.specs.declared.refusal.Told.{Told}
use Rattle.reader.specs.Refusals.{told, tell}
use Rattle.reader.specs.declared.job.Job.{Job}
use Rattle.reader.specs.Samples.{ready_task, job_in, J, JIn, JReady, JSendingIn, JSending, JGroupedIn, JGrouped}
use Rattle.reader.specs.JobFile.{read_job, read_job_up_to}
use Rattle.writer.specs.Write.{pack, job_bytes}
use Rattle.writer.specs.Equality.{SameJob}

-- the number and both places of a refusal, all 0 for success
abbrev pub shown : {A : Type 0} → Result A Refusal → Told
shown (Ok a) = told 0 0 0
shown (Err r) = tell r

-- a job of p nodes and one task that no node can run
abbrev pub nodes_file : ℕ → List ℕ
nodes_file p = pack (1 ∷ p ∷ replicate p 0 ++ (1 ∷ 1 ∷ replicate p 0 ++ (0 ∷ [])))

-- sample 11: 'P = 1 or 17: refused 3; 2 and 16 read. Empty file: refused 1 (0, 0).'
pub record Sample11 : Type 0 where
  pub one : shown (read_job (nodes_file 1)) ≡ told 3 4 0
  pub two : shown (read_job (nodes_file 2)) ≡ told 0 0 0
  pub sixteen : shown (read_job (nodes_file 16)) ≡ told 0 0 0
  pub seventeen : shown (read_job (nodes_file 17)) ≡ told 3 4 0
  pub empty : shown (read_job []) ≡ told 1 0 0

-- J with ready times that its version lacks
abbrev pub JStray : Job
JStray = JIn 1 7 9

-- (ii): 'each job is written back in its own version'; 'a field that a job's version lacks is no part of the job'; 'a console that knows only
-- version 1 refuses the newer file as version'; in version 2 the ready time of task 1 of J stands at 44, its deadline at 48
pub record Versions : Type 0 where
  pub own_version : read_job (job_bytes (JReady 5 7)) ≡ Ok (JReady 5 7)
  pub stray_bytes : job_bytes JStray ≡ job_bytes J
  pub stray_same : SameJob JStray J
  pub stray_read : read_job (job_bytes JStray) ≡ Ok J
  pub none : shown (read_job (job_bytes (JIn 0 0 0))) ≡ told 2 0 0
  pub later : shown (read_job (job_bytes (JIn 5 0 0))) ≡ told 2 0 0
  pub older_reader : shown (read_job_up_to 1 (job_bytes (JReady 0 0))) ≡ told 2 0 0
  pub ready_most : shown (read_job (job_bytes (JReady 0 1_000_000))) ≡ told 0 0 0
  pub ready_above : shown (read_job (job_bytes (JReady 0 1_000_001))) ≡ told 4 44 0
  pub deadline_behind : shown (read_job (job_bytes (job_in 2 (ready_task 5 30 4 ∷ ready_task 5 0 3 ∷ []) []))) ≡ told 4 48 0

-- (iv): 'Job version 3 adds to each node a send time (0 to 1,000), after its detect time. .. Versions 1 and 2 read as send 0'; in version 3 the send
-- time of node 2 of J stands at 28, and the numbers behind the nodes as in version 2
pub record SendFiles : Type 0 where
  pub own_version : read_job (job_bytes (JSending 5 0 1_000)) ≡ Ok (JSending 5 0 1_000)
  pub stray_bytes : job_bytes (JSendingIn 2 5 7 9) ≡ job_bytes (JReady 0 0)
  pub stray_read : read_job (job_bytes (JSendingIn 1 5 7 9)) ≡ Ok J
  pub older_reader : shown (read_job_up_to 2 (job_bytes (JSending 0 0 0))) ≡ told 2 0 0
  pub send_above : shown (read_job (job_bytes (JSending 0 0 1_001))) ≡ told 4 28 0

-- (vi): 'Job version 4 gives each node, after its send time, a supply group (0 to 15); in older versions each node is its own group'; in version 4 the
-- group of node 2 of J stands at 40
pub record GroupFiles : Type 0 where
  pub own_version : read_job (job_bytes (JGrouped 5 15 5)) ≡ Ok (JGrouped 5 15 5)
  pub stray_bytes : job_bytes (JGroupedIn 3 5 5 9) ≡ job_bytes (JSending 0 0 0)
  pub stray_read : read_job (job_bytes (JGroupedIn 1 5 5 9)) ≡ Ok J
  pub older_reader : shown (read_job_up_to 3 (job_bytes (JGrouped 0 1 2))) ≡ told 2 0 0
  pub group_above : shown (read_job (job_bytes (JGrouped 0 0 16))) ≡ told 4 40 0
