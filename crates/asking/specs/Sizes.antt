-- The job before a description, by the numbers that it is read by.
use Rattle.std.specs.Prelude.{ℕ, ◌≤◌}
use Rattle.reader.specs.declared.job.Job.{Job}
use Rattle.reader.specs.Limits.{min_nodes, max_nodes, min_tasks, max_tasks}
use Rattle.reader.specs.Entries.{nodes, tasks, links}
use Rattle.asking.specs.declared.description_file.Shape.{Shape}

-- so many nodes and tasks as a job has
pub record Sizes (p n : ℕ) : Type 0 where
  pub nodes_least : min_nodes ≤ p
  pub nodes_most : p ≤ max_nodes
  pub tasks_least : min_tasks ≤ n
  pub tasks_most : n ≤ max_tasks

-- a job with this version, and so many nodes and tasks
abbrev pub sized : Job → ℕ → ℕ → ℕ → Job
sized job v p n =
    record {
      version = v;
      node_count = p;
      nodes = job.nodes;
      task_count = n;
      tasks = job.tasks;
      link_count = links job;
      links = job.links;
    }

abbrev pub shaped : Job → Shape → Job
shaped job shape = sized job shape.version shape.nodes shape.tasks

-- those that a job has
unfoldable pub shape_of : Job → Shape
shape_of job = record { version = job.version; nodes = nodes job; tasks = tasks job }
