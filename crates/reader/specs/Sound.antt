-- What reading promises: of a job, and of a plan after its job. The crates above rest on these two records alone.
use Rattle.std.specs.Prelude.{ℕ, suc, ◌≤◌, ◌<◌, ◌≡◌, Bool, true, List, ltb, eqb, get_or}
use Rattle.reader.specs.declared.job.Link.{Link}
use Rattle.reader.specs.declared.job.Job.{Job}
use Rattle.reader.specs.declared.plan.Place.{Place}
use Rattle.reader.specs.declared.plan.Plan.{Plan}
use Rattle.reader.specs.Tests.{◌and◌, ◌or◌}
use Rattle.reader.specs.Limits.{first_version, newest_version, ready_since, send_since, group_since, plan_version, min_nodes, max_nodes, max_detect}
use Rattle.reader.specs.Limits.{max_send, max_group, min_tasks, max_tasks, min_deadline, max_links, max_time, max_start}
use Rattle.reader.specs.Entries.{nodes, tasks, links, detect, send, group, ready, deadline, run, link, place}

-- 'links rise strictly by from, then to': l stands below m
unfoldable pub below : Link → Link → Bool
below l m = ltb l.from m.from or eqb l.from m.from and ltb l.to m.to

pub record Sound (job : Job) : Type 0 where
  pub version_least : first_version ≤ job.version
  pub version_most : job.version ≤ newest_version
  pub nodes_least : min_nodes ≤ nodes job
  pub nodes_most : nodes job ≤ max_nodes
  pub detect_most : (n : ℕ) → n < nodes job → detect job n ≤ max_detect
  pub send_most : (n : ℕ) → n < nodes job → send job n ≤ max_send
  pub send_lacks : (n : ℕ) → n < nodes job → job.version < send_since → send job n ≡ 0
  pub group_most : (n : ℕ) → n < nodes job → group job n ≤ max_group
  pub group_lacks : (n : ℕ) → n < nodes job → job.version < group_since → group job n ≡ n
  pub tasks_least : min_tasks ≤ tasks job
  pub tasks_most : tasks job ≤ max_tasks
  pub ready_most : (j : ℕ) → j < tasks job → ready job j ≤ max_time
  pub ready_lacks : (j : ℕ) → j < tasks job → job.version < ready_since → ready job j ≡ 0
  pub deadline_least : (j : ℕ) → j < tasks job → min_deadline ≤ deadline job j
  pub deadline_most : (j : ℕ) → j < tasks job → deadline job j ≤ max_time
  pub run_most : (j n : ℕ) → j < tasks job → n < nodes job → run job j n ≤ max_time
  pub links_most : links job ≤ max_links
  pub rise : (k : ℕ) → k < links job → (link job k).from < (link job k).to
  pub into : (k : ℕ) → k < links job → (link job k).to < tasks job
  pub delay_most : (k : ℕ) → k < links job → (link job k).delay ≤ max_time
  pub order : (k : ℕ) → suc k < links job → below (link job k) (link job (suc k)) ≡ true

-- of one place, on p nodes, of a task of these run times
pub record SoundPlace (p : ℕ) (run : List ℕ) (x : Place) : Type 0 where
  pub primary_node : x.primary_node < p
  pub primary_able : 0 < get_or run x.primary_node 0
  pub primary_start : x.primary_start ≤ max_start
  pub backup_node : x.backup_node < p
  pub backup_able : 0 < get_or run x.backup_node 0
  pub backup_start : x.backup_start ≤ max_start

pub record PlanSound (job : Job) (plan : Plan) : Type 0 where
  pub version : plan.version ≡ plan_version
  pub count : plan.task_count ≡ tasks job
  pub primary_node : (j : ℕ) → j < tasks job → (place plan j).primary_node < nodes job
  pub primary_able : (j : ℕ) → j < tasks job → 0 < run job j (place plan j).primary_node
  pub primary_start : (j : ℕ) → j < tasks job → (place plan j).primary_start ≤ max_start
  pub backup_node : (j : ℕ) → j < tasks job → (place plan j).backup_node < nodes job
  pub backup_able : (j : ℕ) → j < tasks job → 0 < run job j (place plan j).backup_node
  pub backup_start : (j : ℕ) → j < tasks job → (place plan j).backup_start ≤ max_start
