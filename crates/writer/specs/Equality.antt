-- 'Two jobs or plans are equal if version, counts and counted entries are; what a value holds beyond its counts is no part of it.' Of an entry
-- those numbers count that its version writes: (ii) 'A field that a job's version lacks is no part of the job'.
use Rattle.std.specs.Prelude.{ℕ, ◌<◌, List, ◌≡◌, Ok}
use Rattle.reader.specs.declared.job.Job.{Job}
use Rattle.reader.specs.declared.plan.Plan.{Plan}
use Rattle.reader.specs.Entries.{nodes, tasks, links, node, task, link, place}
use Rattle.reader.specs.JobFile.{read_job}
use Rattle.reader.specs.PlanFile.{read_plan}
use Rattle.writer.specs.Write.{node_numbers, task_numbers}

pub record SameJob (a b : Job) : Type 0 where
  pub version : a.version ≡ b.version
  pub node_count_is : nodes a ≡ nodes b
  pub same_node : (n : ℕ) → n < nodes a → node_numbers a.version (node a n) ≡ node_numbers a.version (node b n)
  pub task_count_is : tasks a ≡ tasks b
  pub same_task : (j : ℕ) → j < tasks a → task_numbers a.version (nodes a) (task a j) ≡ task_numbers a.version (nodes a) (task b j)
  pub link_count_is : links a ≡ links b
  pub same_link : (k : ℕ) → k < links a → link a k ≡ link b k

pub record SamePlan (a b : Plan) : Type 0 where
  pub version : a.version ≡ b.version
  pub task_count_is : a.task_count ≡ b.task_count
  pub same_place : (j : ℕ) → j < a.task_count → place a j ≡ place b j

-- s reads well, as the same job; or, after its job, as the same plan
pub record JobIn (s : List ℕ) (job : Job) : Type 0 where
  pub back : Job
  pub reads : read_job s ≡ Ok back
  pub same : SameJob back job

pub record PlanIn (s : List ℕ) (job : Job) (plan : Plan) : Type 0 where
  pub back : Plan
  pub reads : read_plan s job ≡ Ok back
  pub same : SamePlan back plan
