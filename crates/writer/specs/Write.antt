-- Writing: the bytes of a job and of a plan, and what a writer does to a buffer.
use Rattle.std.specs.Prelude.{ℕ, zero, suc, ◌+◌, min, List, [], ◌∷◌, ◌++◌, leb, length, get_or, take, drop, Ok}
use Rattle.std.proofs.Math.Option.{Option, none, some}
use Rattle.reader.specs.declared.job.Job.{Job}
use Rattle.reader.specs.declared.job.Node.{Node}
use Rattle.reader.specs.declared.job.Task.{Task}
use Rattle.reader.specs.declared.job.Link.{Link}
use Rattle.reader.specs.declared.plan.Place.{Place}
use Rattle.reader.specs.declared.plan.Plan.{Plan}
use Rattle.reader.specs.declared.refusal.Refusal.{Refusal}
use Rattle.reader.specs.declared.refusal.Refusal.TheVariants.{ShortBuffer}
use Rattle.reader.specs.First.{◌or_else◌, unless}
use Rattle.reader.specs.Limits.{max_nodes, max_tasks, max_links}
use Rattle.reader.specs.Entries.{nodes, tasks, links, node, task, link, place}
use Rattle.reader.specs.Number.{bytes}
use Rattle.reader.specs.Fields.{node_fields, task_fields, node_values, task_values, held}
use Rattle.reader.specs.Refusals.{Answer, answered}
use Rattle.reader.specs.JobFile.{job_fault, job_at}
use Rattle.reader.specs.PlanFile.{plan_fault}

-- the buffer d with s written from an offset on
unfoldable pub splice : List ℕ → ℕ → List ℕ → List ℕ
splice d at s = take at d ++ (s ++ drop (at + length s) d)

-- the bytes of a row of numbers
unfoldable pub pack : List ℕ → List ℕ
pack [] = []
pack (v ∷ vs) = bytes v ++ pack vs

-- f 0, f 1, .. f (n - 1), one after the other
unfoldable pub flat : ℕ → (ℕ → List ℕ) → List ℕ
flat zero f = []
flat (suc n) f = flat n f ++ f n

-- the numbers of a file's entries, in version v and for p nodes; which fields a node's entry has does not go by its number
unfoldable pub node_numbers : ℕ → Node → List ℕ
node_numbers v x = held v (node_fields 0) (node_values x)

unfoldable pub task_numbers : ℕ → ℕ → Task → List ℕ
task_numbers v p x = held v task_fields (task_values x) ++ flat p (λ i. get_or x.run i 0 ∷ [])

unfoldable pub link_numbers : Link → List ℕ
link_numbers l = l.from ∷ l.to ∷ l.delay ∷ []

unfoldable pub place_numbers : Place → List ℕ
place_numbers x = x.primary_node ∷ x.primary_start ∷ x.backup_node ∷ x.backup_start ∷ []

-- the numbers of a job file, of which p nodes, n tasks and m links stand in the arrays
unfoldable pub numbers_of : Job → ℕ → ℕ → ℕ → List ℕ
numbers_of job p n m =
    (job.version ∷ nodes job ∷ [])
    ++ (flat p (λ i. node_numbers job.version (node job i))
    ++ ((tasks job ∷ [])
    ++ (flat n (λ j. task_numbers job.version p (task job j))
    ++ ((links job ∷ [])
    ++ flat m (λ k. link_numbers (link job k))))))

-- the bytes that a writer would write: a count may be anything, and past the end of an array there is no entry to write
unfoldable pub job_numbers : Job → List ℕ
job_numbers job = numbers_of job (min (nodes job) max_nodes) (min (tasks job) max_tasks) (min (links job) max_links)

unfoldable pub job_bytes : Job → List ℕ
job_bytes job = pack (job_numbers job)

unfoldable pub plan_numbers : Plan → List ℕ
plan_numbers plan =
    (plan.version ∷ plan.task_count ∷ []) ++ flat (min plan.task_count max_tasks) (λ j. place_numbers (place plan j))

unfoldable pub plan_bytes : Plan → List ℕ
plan_bytes plan = pack (plan_numbers plan)

-- 17, 'output buffer too small; bytes needed'
unfoldable pub room_fault : List ℕ → ℕ → Option Refusal
room_fault out n = unless (leb n (length out)) (ShortBuffer n)

-- 'A writer refuses a job, or a plan after its job, as the reader would refuse the bytes it would write, then 17.'
unfoldable pub write_job_fault : Job → List ℕ → Option Refusal
write_job_fault job out = job_fault (job_bytes job) or_else room_fault out (length (job_bytes job))

unfoldable pub write_plan_fault : Job → Plan → List ℕ → Option Refusal
write_plan_fault job plan out =
    job_fault (job_bytes job)
    or_else plan_fault (plan_bytes plan) (job_at (job_bytes job))
    or_else room_fault out (length (plan_bytes plan))

-- 'On a refusal output buffers keep their bytes; on success bytes beyond the output keep theirs.'
abbrev pub buffer_after : Option Refusal → List ℕ → List ℕ → List ℕ
buffer_after none s out = s ++ drop (length s) out
buffer_after (some r) s out = out

-- what writing gives: the answer, and the buffer afterwards
pub record Written : Type 0 where
  pub answer : Answer
  pub buffer : List ℕ

abbrev pub writes : Option Refusal → List ℕ → List ℕ → Written
writes fault s out = record { answer = answered fault; buffer = buffer_after fault s out }

-- the whole of s written
abbrev pub wrote : List ℕ → List ℕ → Written
wrote s out = record { answer = Ok tt; buffer = s ++ drop (length s) out }

unfoldable pub write_job : Job → List ℕ → Written
write_job job out = writes (write_job_fault job out) (job_bytes job) out

unfoldable pub write_plan : Job → Plan → List ℕ → Written
write_plan job plan out = writes (write_plan_fault job plan out) (plan_bytes plan) out
